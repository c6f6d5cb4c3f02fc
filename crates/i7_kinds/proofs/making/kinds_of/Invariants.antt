use Rattle.std.proofs.Common.{◌≡◌, ◌++◌, length}
use Rattle.i7_kinds.specs.Bounds.{AreSmallKnowns}
use Rattle.i7_kinds.specs.Knowns.{kinds_of}
use Rattle.i7_kinds.proofs.making.kinds_of.Given as goal

abbrev pub invariant-loop-rest : goal.invariant-loop-rest
invariant-loop-rest l = (l.kinds.items ++ kinds_of l.rest ≡ kinds_of l.knowns) × AreSmallKnowns l.rest

abbrev pub decreases-loop-rest : goal.decreases-loop-rest
decreases-loop-rest l = length l.rest
