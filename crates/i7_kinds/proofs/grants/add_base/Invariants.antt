use Rattle.std.proofs.Common.{◌≡◌, ◌++◌, length}
use Rattle.i7_kinds.proofs.grants.add_base.Given as goal

abbrev pub invariant-loop-rest : goal.invariant-loop-rest
invariant-loop-rest l = l.kinds.items ++ l.rest ≡ l.initial.kinds.items ++ l.base

abbrev pub decreases-loop-rest : goal.decreases-loop-rest
decreases-loop-rest l = length l.rest
