use Rattle.std.proofs.Common.{◌≡◌, ◌++◌, length}
use Rattle.i7_kinds.specs.Grants.{givens_of}
use Rattle.i7_kinds.proofs.grants.givens_of.Given as goal

abbrev pub invariant-loop-rest : goal.invariant-loop-rest
invariant-loop-rest l = l.givens.items ++ givens_of l.properties l.kinds l.rest ≡ givens_of l.properties l.kinds l.claims

abbrev pub decreases-loop-rest : goal.decreases-loop-rest
decreases-loop-rest l = length l.rest
