use Rattle.std.proofs.Common.{◌≡◌, ◌+◌, ◌≤◌, length}
use Rattle.i7_claims.specs.Scans.{lowest}
use Rattle.i7_kinds.specs.KindClaims.{kind_too_many, shows_kind_too_many, with_count_of}
use Rattle.i7_kinds.proofs.author_kinds.kind_too_many.Given as goal

abbrev pub invariant-loop-rest : goal.invariant-loop-rest
invariant-loop-rest l = (lowest shows_kind_too_many with_count_of l.count l.rest l.found ≡ kind_too_many l.claims) × (l.count + length l.rest ≤ 10 + length l.claims)

abbrev pub decreases-loop-rest : goal.decreases-loop-rest
decreases-loop-rest l = length l.rest
