use Rattle.std.proofs.Common.{◌≡◌, length}
use Rattle.i7_conditions.specs.Joining.{follow, joints_of, onto}
use Rattle.i7_conditions.specs.Scopes.{scope_of}
use Rattle.i7_conditions.proofs.joining.follow.Given as goal

abbrev pub invariant-loop-rest : goal.invariant-loop-rest
invariant-loop-rest l = onto (joints_of l.parts.items) (follow (scope_of l.scope) l.column l.left l.rest) ≡ follow (scope_of l.scope) l.column l.first l.words

abbrev pub decreases-loop-rest : goal.decreases-loop-rest
decreases-loop-rest l = length l.rest
