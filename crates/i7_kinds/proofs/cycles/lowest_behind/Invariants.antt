use Rattle.std.proofs.Common.{◌≡◌, ◌++◌, length}
use Rattle.i7_claims.specs.Scans.{lowest}
use Rattle.i7_kinds.specs.Cycles.{with_put_of}
use Rattle.i7_kinds.specs.Places.{holder_cycle, shows_holder_cycle}
use Rattle.i7_kinds.proofs.cycles.lowest_behind.Given as goal

abbrev pub invariant-loop-rest : goal.invariant-loop-rest
invariant-loop-rest l = lowest (shows_holder_cycle l.scope.objects) (with_put_of l.scope.objects) l.contents.items l.rest l.found ≡ holder_cycle l.scope.objects (l.front ++ l.claims)

abbrev pub decreases-loop-rest : goal.decreases-loop-rest
decreases-loop-rest l = length l.rest
