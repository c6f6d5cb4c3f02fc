use Rattle.std.proofs.Common.{◌≡◌, length}
use Rattle.std.specs.Prelude.{find}
use Rattle.i7_sentences.specs.Words.{names_direction}
use Rattle.i7_sentences.proofs.word.first_named.Given as goal

abbrev pub invariant-loop-rest : goal.invariant-loop-rest
invariant-loop-rest l = find (names_direction l.word) l.rest ≡ find (names_direction l.word) l.directions

abbrev pub decreases-loop-rest : goal.decreases-loop-rest
decreases-loop-rest l = length l.rest
