use Rattle.std.proofs.Common.{◌≡◌, length}
use Rattle.std.specs.Prelude.{fold}
use Rattle.i7_claims.specs.NameScans.{longer_claim}
use Rattle.i7_claims.proofs.standings.longest_claim.Given as goal

abbrev pub invariant-loop-rest : goal.invariant-loop-rest
invariant-loop-rest l = fold longer_claim l.longest l.rest ≡ fold longer_claim l.most l.claims

abbrev pub decreases-loop-rest : goal.decreases-loop-rest
decreases-loop-rest l = length l.rest
