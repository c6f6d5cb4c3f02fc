use Rattle.std.proofs.Common.{◌≡◌, length}
use Rattle.i7_kinds.specs.Values.{usual_from, usual_of, value_at}
use Rattle.i7_kinds.proofs.properties.usual_of.Given as goal

abbrev pub invariant-loop-left : goal.invariant-loop-left
invariant-loop-left l = usual_from l.left l.parents (value_at l.usuals) l.at l.property ≡ usual_of l.parents (value_at l.usuals) l.kind l.property

abbrev pub decreases-loop-left : goal.decreases-loop-left
decreases-loop-left l = length l.left
