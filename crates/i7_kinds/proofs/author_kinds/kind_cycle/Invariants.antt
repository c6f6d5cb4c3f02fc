use Rattle.std.proofs.Common.{◌≡◌, length}
use Rattle.i7_claims.specs.Scans.{lowest}
use Rattle.i7_kinds.specs.KindClaims.{kind_cycle, shows_cycle, with_parent_of}
use Rattle.i7_kinds.proofs.author_kinds.kind_cycle.Given as goal

abbrev pub invariant-loop-rest : goal.invariant-loop-rest
invariant-loop-rest l = lowest (shows_cycle l.names) (with_parent_of l.names) l.parents.items l.rest l.found ≡ kind_cycle l.names l.claims

abbrev pub decreases-loop-rest : goal.decreases-loop-rest
decreases-loop-rest l = length l.rest
