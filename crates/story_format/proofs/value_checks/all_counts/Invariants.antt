use Rattle.std.proofs.Common.{◌≡◌, ◌++◌, ◌+◌, ◌≤◌, length}
use Rattle.story_format.specs.ValueChecks.{all_counts, counts_from}
use Rattle.story_format.proofs.value_checks.all_counts.Given as goal

abbrev pub invariant-loop-left : goal.invariant-loop-left
invariant-loop-left l = record { made : l.all.items ++ counts_from l.parents l.values l.kind l.left ≡ all_counts l.parents l.values; bound : l.kind + length l.left ≤ 100 }

abbrev pub decreases-loop-left : goal.decreases-loop-left
decreases-loop-left l = length l.left
