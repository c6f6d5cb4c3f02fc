use Rattle.std.proofs.Common.{◌≡◌, ◌++◌, length}
use Rattle.std.specs.List.{filter_map, list_any}
use Rattle.i7_sentences.specs.KindsOfValue.{declared_in, is_value_itself}
use Rattle.i7_sentences.specs.Pieces.{pieces_of}
use Rattle.i7_sentences.proofs.kinds_of_value.kinds_of_value.Given as goal

abbrev pub invariant-loop-rest : goal.invariant-loop-rest
invariant-loop-rest l = record {
  itself : list_any is_value_itself (pieces_of l.rest) ≡ list_any is_value_itself (pieces_of l.parts);
  declared : l.kinds.items ++ filter_map declared_in (pieces_of l.rest) ≡ filter_map declared_in (pieces_of l.parts);
}

abbrev pub decreases-loop-rest : goal.decreases-loop-rest
decreases-loop-rest l = length l.rest
