use Rattle.std.proofs.Common.{◌≡◌, true, length}
use Rattle.std.specs.List.{list_any}
use Rattle.i7_sentences.specs.Names.{names_from}
use Rattle.i7_sentences.specs.Reserved.{is_reserved_name}
use Rattle.i7_sentences.proofs.reserved.has_reserved_name.Given as goal

abbrev pub invariant-loop-rest : goal.invariant-loop-rest
invariant-loop-rest l = list_any is_reserved_name (names_from true l.rest) ≡ list_any is_reserved_name (names_from true l.letter)

abbrev pub decreases-loop-rest : goal.decreases-loop-rest
decreases-loop-rest l = length l.rest
