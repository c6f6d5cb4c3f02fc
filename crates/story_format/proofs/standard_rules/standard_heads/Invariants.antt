-- Those so far, and those of the rows that are left.
use Rattle.std.proofs.Common.{◌≡◌, ◌++◌, length, map}
use Rattle.story_format.specs.RuleHeadings.{head_meant, heading_of}
use Rattle.story_format.specs.StandardRows.{row_rule}
use Rattle.rule_order.specs.declared.standard_rules.TheConstants.{STANDARD_RULES}
use Rattle.story_format.proofs.standard_rules.standard_heads.Given as goal

abbrev pub invariant-loop-rest : goal.invariant-loop-rest
invariant-loop-rest l = map head_meant l.heads.items ++ map (λ row. heading_of (row_rule row)) l.rest ≡ map (λ row. heading_of (row_rule row)) STANDARD_RULES

abbrev pub decreases-loop-rest : goal.decreases-loop-rest
decreases-loop-rest l = length l.rest
