use Rattle.std.proofs.Common.{◌≡◌, length}
use Rattle.world_meaning.specs.Declarations.{are_each_below}
use Rattle.story_format.proofs.value_checks.are_each_below.Given as goal

abbrev pub invariant-loop-counts : goal.invariant-loop-counts
invariant-loop-counts l = are_each_below l.counts l.numbers ≡ are_each_below l.initial.counts l.initial.numbers

abbrev pub decreases-loop-counts : goal.decreases-loop-counts
decreases-loop-counts l = length l.counts
