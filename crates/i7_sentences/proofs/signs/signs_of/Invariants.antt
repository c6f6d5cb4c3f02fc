use Rattle.std.proofs.Common.{◌≡◌, length}
use Rattle.std.specs.Prelude.{fold}
use Rattle.i7_sentences.specs.Keywords.{signs_of}
use Rattle.i7_sentences.specs.Signs.{marked, table_of}
use Rattle.i7_sentences.proofs.signs.signs_of.Given as goal

abbrev pub invariant-loop-rest : goal.invariant-loop-rest
invariant-loop-rest l = fold marked l.signs (signs_of l.rest) ≡ table_of l.tokens

abbrev pub decreases-loop-rest : goal.decreases-loop-rest
decreases-loop-rest l = length l.rest
