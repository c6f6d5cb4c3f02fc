use Rattle.std.proofs.Common.{◌≡◌, length}
use Rattle.i7_claims.specs.Scans.{lowest}
use Rattle.i7_kinds.specs.KindClaims.{same_names, shows_unknown, unknown_kind}
use Rattle.i7_kinds.proofs.author_kinds.unknown_kind.Given as goal

abbrev pub invariant-loop-rest : goal.invariant-loop-rest
invariant-loop-rest l = lowest shows_unknown same_names l.names l.rest l.found ≡ unknown_kind l.names l.claims

abbrev pub decreases-loop-rest : goal.decreases-loop-rest
decreases-loop-rest l = length l.rest
