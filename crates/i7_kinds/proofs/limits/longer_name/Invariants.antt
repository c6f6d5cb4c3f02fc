use Rattle.std.proofs.Common.{◌≡◌, length}
use Rattle.i7_kinds.specs.LongNames.{longer_name, same_most, shows_longer}
use Rattle.i7_claims.specs.Scans.{lowest}
use Rattle.i7_kinds.proofs.limits.longer_name.Given as goal

abbrev pub invariant-loop-rest : goal.invariant-loop-rest
invariant-loop-rest l = lowest shows_longer same_most l.most l.rest l.found ≡ longer_name l.most l.claims

abbrev pub decreases-loop-rest : goal.decreases-loop-rest
decreases-loop-rest l = length l.rest
