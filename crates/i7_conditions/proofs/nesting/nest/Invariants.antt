use Rattle.std.proofs.Common.{◌≡◌, [], length}
use Rattle.i7_conditions.specs.Levels.{levels_of, levels_on}
use Rattle.i7_conditions.proofs.nesting.nest.Given as goal

abbrev pub invariant-loop-line : goal.invariant-loop-line
invariant-loop-line l = levels_on (levels_of l.levels.items) l.rest.items ≡ levels_on [] l.fn.lines.items

abbrev pub decreases-loop-line : goal.decreases-loop-line
decreases-loop-line l = length l.rest.items
