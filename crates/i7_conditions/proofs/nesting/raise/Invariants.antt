use Rattle.std.proofs.Common.{◌≡◌, ◌+◌, ◌-◌, length}
use Rattle.i7_conditions.specs.Levels.{levels_of, placed}
use Rattle.i7_conditions.specs.declared.line.Step.{Step}
use Rattle.i7_conditions.proofs.nesting.raise.Given as goal

abbrev pub invariant-loop-alloc : goal.invariant-loop-alloc
invariant-loop-alloc l = (step : Step) → placed l.depth step (levels_of l.levels.items) ≡ placed l.depth step (levels_of l.fn.levels.items)

abbrev pub decreases-loop-alloc : goal.decreases-loop-alloc
decreases-loop-alloc l = l.depth + 1 - length l.levels.items
