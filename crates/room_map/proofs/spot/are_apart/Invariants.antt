use Rattle.std.proofs.Common.{◌≡◌, length}
use Rattle.room_map.specs.Spots.{are_apart}
use Rattle.room_map.proofs.spot.are_apart.Given as goal

abbrev pub invariant-loop-rest : goal.invariant-loop-rest
invariant-loop-rest l = are_apart l.rest ≡ are_apart l.spots

abbrev pub decreases-loop-rest : goal.decreases-loop-rest
decreases-loop-rest l = length l.rest
