use Rattle.std.proofs.Common.{◌≡◌, length}
use Rattle.std.specs.Prelude.{fold}
use Rattle.i7_kinds.specs.Doors.{door_demanded, doors_of, with_told}
use Rattle.i7_kinds.proofs.doors.doors_of.Given as goal

abbrev pub invariant-loop-rest : goal.invariant-loop-rest
invariant-loop-rest l = fold (with_told (door_demanded l.kinds l.parents)) l.doors l.rest ≡ doors_of l.kinds l.parents l.claims

abbrev pub decreases-loop-rest : goal.decreases-loop-rest
decreases-loop-rest l = length l.rest
