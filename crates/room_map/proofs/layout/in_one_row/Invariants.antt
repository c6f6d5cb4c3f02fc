use Rattle.std.proofs.Common.{◌≡◌}
use Rattle.room_map.specs.Spots.{row_of}
use Rattle.room_map.proofs.layout.in_one_row.Given as goal

abbrev pub invariant-loop-column : goal.invariant-loop-column
invariant-loop-column l = l.spots.items ≡ row_of 0 l.column
