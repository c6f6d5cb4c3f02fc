use Rattle.std.proofs.Common.{◌≡◌, length}
use Rattle.i7_claims.specs.Scans.{lowest}
use Rattle.i7_claims.specs.Sorts.{list_too_long, shows_long_list}
use Rattle.i7_claims.proofs.sorts.list_too_long.Given as goal

abbrev pub invariant-loop-rest : goal.invariant-loop-rest
invariant-loop-rest l = lowest shows_long_list (λ u c. u) tt l.rest l.found ≡ list_too_long l.claims

abbrev pub decreases-loop-rest : goal.decreases-loop-rest
decreases-loop-rest l = length l.rest
