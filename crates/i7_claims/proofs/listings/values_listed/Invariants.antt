use Rattle.std.proofs.Common.{◌≡◌, length}
use Rattle.i7_claims.specs.Listings.{values_listed}
use Rattle.i7_claims.proofs.listings.values_listed.Given as goal

abbrev pub invariant-loop-rest : goal.invariant-loop-rest
invariant-loop-rest l = values_listed l.rest l.kind ≡ values_listed l.claims l.kind

abbrev pub decreases-loop-rest : goal.decreases-loop-rest
decreases-loop-rest l = length l.rest
