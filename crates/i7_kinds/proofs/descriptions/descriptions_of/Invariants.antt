use Rattle.std.proofs.Common.{◌≡◌, ◌++◌, length}
use Rattle.i7_kinds.specs.Demands.{described_after, descriptions_of}
use Rattle.i7_kinds.proofs.descriptions.descriptions_of.Given as goal

abbrev pub invariant-loop-rest : goal.invariant-loop-rest
invariant-loop-rest l = l.descriptions.items ++ described_after l.parents l.knowns l.subject l.rest ≡ descriptions_of l.parents l.knowns l.statements

abbrev pub decreases-loop-rest : goal.decreases-loop-rest
decreases-loop-rest l = length l.rest
