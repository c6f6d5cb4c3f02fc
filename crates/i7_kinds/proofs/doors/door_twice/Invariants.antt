use Rattle.std.proofs.Common.{◌≡◌, length}
use Rattle.i7_kinds.specs.Doors.{door_told, door_twice, shows_told_again, with_told}
use Rattle.i7_claims.specs.Scans.{lowest}
use Rattle.i7_kinds.proofs.doors.door_twice.Given as goal

abbrev pub invariant-loop-rest : goal.invariant-loop-rest
invariant-loop-rest l = lowest shows_told_again (with_told door_told) l.doors l.rest l.found ≡ door_twice l.claims

abbrev pub decreases-loop-rest : goal.decreases-loop-rest
decreases-loop-rest l = length l.rest
