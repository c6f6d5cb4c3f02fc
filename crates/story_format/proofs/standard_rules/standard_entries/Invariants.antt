-- Those so far, and those of the rows that are left.
use Rattle.std.proofs.Common.{◌≡◌, ◌++◌, ◌+◌, ◌≤◌, length}
use Rattle.story_format.specs.StandardRows.{row_entries}
use Rattle.rule_order.specs.declared.standard_rules.TheConstants.{STANDARD_RULES}
use Rattle.story_format.proofs.standard_rules.standard_entries.Given as goal

abbrev pub invariant-loop-rest : goal.invariant-loop-rest
invariant-loop-rest l = record { made : l.entries.items ++ row_entries l.number l.rest ≡ row_entries 1 STANDARD_RULES; bound : l.number + length l.rest ≤ 62 }

abbrev pub decreases-loop-rest : goal.decreases-loop-rest
decreases-loop-rest l = length l.rest
