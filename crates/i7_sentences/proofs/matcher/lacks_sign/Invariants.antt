use Rattle.std.proofs.Common.{◌≡◌, length}
use Rattle.std.specs.List.{list_any}
use Rattle.i7_sentences.specs.Signs.{is_unmarked}
use Rattle.i7_sentences.proofs.matcher.lacks_sign.Given as goal

abbrev pub invariant-loop-rest : goal.invariant-loop-rest
invariant-loop-rest l = list_any (is_unmarked l.signs) l.rest ≡ list_any (is_unmarked l.signs) l.pieces

abbrev pub decreases-loop-rest : goal.decreases-loop-rest
decreases-loop-rest l = length l.rest
