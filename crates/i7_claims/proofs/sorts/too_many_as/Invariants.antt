use Rattle.std.proofs.Common.{◌≡◌, length}
use Rattle.i7_claims.specs.Scans.{lowest}
use Rattle.i7_claims.specs.Sorts.{most_names, shows_too_many, too_many_as, with_claimed}
use Rattle.i7_claims.proofs.sorts.too_many_as.Given as goal

abbrev pub invariant-loop-rest : goal.invariant-loop-rest
invariant-loop-rest l = (lowest (shows_too_many l.sort) (with_claimed l.sort) l.names l.rest l.found ≡ too_many_as l.sort l.claims) × (l.most ≡ most_names l.sort)

abbrev pub decreases-loop-rest : goal.decreases-loop-rest
decreases-loop-rest l = length l.rest
