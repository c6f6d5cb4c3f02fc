use Rattle.std.proofs.Common.{◌≡◌, length}
use Rattle.i7_rules.specs.Saying.{ends_sentence}
use Rattle.i7_rules.proofs.saying.ends_sentence.Given as goal

abbrev pub invariant-loop-rest : goal.invariant-loop-rest
invariant-loop-rest l = ends_sentence l.rest ≡ ends_sentence l.pieces

abbrev pub decreases-loop-rest : goal.decreases-loop-rest
decreases-loop-rest l = length l.rest
