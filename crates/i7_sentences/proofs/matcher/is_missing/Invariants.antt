use Rattle.std.proofs.Common.{◌≡◌, length}
use Rattle.i7_sentences.specs.Matching.{is_missing}
use Rattle.i7_sentences.proofs.matcher.is_missing.Given as goal

abbrev pub invariant-loop-rest : goal.invariant-loop-rest
invariant-loop-rest l = is_missing l.rest l.piece ≡ is_missing l.tokens l.piece

abbrev pub decreases-loop-rest : goal.decreases-loop-rest
decreases-loop-rest l = length l.rest
