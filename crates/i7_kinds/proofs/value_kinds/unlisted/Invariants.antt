use Rattle.std.proofs.Common.{◌≡◌, length}
use Rattle.i7_claims.specs.Scans.{lowest}
use Rattle.i7_kinds.specs.ValueKinds.{same_claims, shows_unlisted, unlisted}
use Rattle.i7_kinds.proofs.value_kinds.unlisted.Given as goal

abbrev pub invariant-loop-rest : goal.invariant-loop-rest
invariant-loop-rest l = lowest shows_unlisted same_claims l.claims l.rest l.found ≡ unlisted l.claims

abbrev pub decreases-loop-rest : goal.decreases-loop-rest
decreases-loop-rest l = length l.rest
