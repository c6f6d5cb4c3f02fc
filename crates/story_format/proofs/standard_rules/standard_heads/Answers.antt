use Rattle.std.proofs.Common.{map}
use Rattle.story_format.specs.RuleHeadings.{head_meant}
use Rattle.story_format.proofs.StandardRuleRows.{headings_end}
use Rattle.story_format.proofs.standard_rules.standard_heads.Goals as goal

pub returns : goal.returns
returns c = headings_end (map head_meant c.loop-rest.heads.items) c.loop-rest.rest.now c.in_default.len_below c.loop-rest.invariant
