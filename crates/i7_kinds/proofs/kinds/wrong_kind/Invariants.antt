use Rattle.std.proofs.Common.{◌≡◌, length}
use Rattle.i7_kinds.specs.Demands.{wrong_after, wrong_kind}
use Rattle.i7_kinds.proofs.kinds.wrong_kind.Given as goal

abbrev pub invariant-loop-rest : goal.invariant-loop-rest
invariant-loop-rest l = wrong_after l.parents l.knowns l.subject l.rest ≡ wrong_kind l.parents l.knowns l.statements

abbrev pub decreases-loop-rest : goal.decreases-loop-rest
decreases-loop-rest l = length l.rest
