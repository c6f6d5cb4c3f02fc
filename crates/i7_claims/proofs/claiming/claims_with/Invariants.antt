use Rattle.std.proofs.Common.{◌≡◌, ◌++◌, length}
use Rattle.std.specs.Prelude.{flat_map}
use Rattle.i7_claims.specs.Claims.{claims_in}
use Rattle.i7_claims.specs.NameScans.{standing_at}
use Rattle.i7_claims.proofs.claiming.claims_with.Given as goal

abbrev pub invariant-loop-rest : goal.invariant-loop-rest
invariant-loop-rest l = l.claims.items ++ flat_map (claims_in (standing_at l.known)) l.rest ≡ flat_map (claims_in (standing_at l.known)) l.sentences

abbrev pub decreases-loop-rest : goal.decreases-loop-rest
decreases-loop-rest l = length l.rest
