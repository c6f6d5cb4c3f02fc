use Rattle.story_format.proofs.CodedTables.{never_both}
use Rattle.story_format.proofs.laws.never_held_and_not.Goals as goal

pub returns : goal.returns
returns c = never_both c.never_table_and_none.ensures
