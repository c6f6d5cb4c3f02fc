use Rattle.std.proofs.Common.{◌≡◌, ◌++◌, length}
use Rattle.i7_kinds.specs.Grants.{kinds_given}
use Rattle.i7_kinds.proofs.grants.add_kinds.Given as goal

abbrev pub invariant-loop-rest : goal.invariant-loop-rest
invariant-loop-rest l = l.kinds.items ++ kinds_given l.property l.rest ≡ l.initial.kinds.items ++ kinds_given l.property l.givens

abbrev pub decreases-loop-rest : goal.decreases-loop-rest
decreases-loop-rest l = length l.rest
