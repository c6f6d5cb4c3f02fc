use Rattle.std.proofs.Common.{◌≡◌, length}
use Rattle.std.specs.Prelude.{fold}
use Rattle.i7_kinds.specs.Cycles.{contents_by, with_put_of}
use Rattle.i7_kinds.proofs.cycles.contents_by.Given as goal

abbrev pub invariant-loop-rest : goal.invariant-loop-rest
invariant-loop-rest l = fold (with_put_of l.scope.objects) l.contents.items l.rest ≡ contents_by l.scope.objects l.claims

abbrev pub decreases-loop-rest : goal.decreases-loop-rest
decreases-loop-rest l = length l.rest
