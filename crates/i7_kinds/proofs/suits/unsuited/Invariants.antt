use Rattle.std.proofs.Common.{◌≡◌, length}
use Rattle.i7_claims.specs.Scans.{lowest}
use Rattle.i7_kinds.specs.Suits.{same_knowns, shows_unsuited, unsuited}
use Rattle.i7_kinds.proofs.suits.unsuited.Given as goal

abbrev pub invariant-loop-rest : goal.invariant-loop-rest
invariant-loop-rest l = lowest (shows_unsuited l.scope) same_knowns l.knowns l.rest l.found ≡ unsuited l.scope l.knowns l.claims

abbrev pub decreases-loop-rest : goal.decreases-loop-rest
decreases-loop-rest l = length l.rest
