use Rattle.std.proofs.Common.{◌≡◌, ◌++◌, ◌+◌, ◌≤◌, length}
use Rattle.story_format.specs.KindTables.{had_by, had_from}
use Rattle.story_format.proofs.kind_tables.had_by.Given as goal

abbrev pub invariant-loop-left : goal.invariant-loop-left
invariant-loop-left l = record { made : l.had.items ++ had_from l.parents l.granted l.kind l.left ≡ had_by l.parents l.granted; bound : l.kind + length l.left ≤ 100 }

abbrev pub decreases-loop-left : goal.decreases-loop-left
decreases-loop-left l = length l.left
