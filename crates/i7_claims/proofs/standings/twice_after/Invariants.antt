use Rattle.std.proofs.Common.{◌≡◌, length}
use Rattle.std.specs.Prelude.{None}
use Rattle.i7_claims.specs.NameScans.{shows_twice, standing_at, with_claim}
use Rattle.i7_claims.specs.Scans.{lowest}
use Rattle.i7_claims.proofs.standings.twice_after.Given as goal

abbrev pub invariant-loop-rest : goal.invariant-loop-rest
invariant-loop-rest l = lowest shows_twice with_claim (standing_at l.known) l.rest l.found ≡ lowest shows_twice with_claim (standing_at l.initial.known) l.claims None

abbrev pub decreases-loop-rest : goal.decreases-loop-rest
decreases-loop-rest l = length l.rest
