use Rattle.story_format.proofs.StandardRuleRows.{entries_end}
use Rattle.story_format.proofs.standard_rules.standard_entries.Goals as goal

pub returns : goal.returns
returns c = entries_end c.loop-rest.entries.items c.loop-rest.number c.loop-rest.rest.now c.in_default.len_below c.loop-rest.invariant.made
