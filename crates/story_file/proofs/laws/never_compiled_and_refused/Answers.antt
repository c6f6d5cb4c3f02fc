use Rattle.story_file.proofs.Outcomes.{not_both}
use Rattle.story_file.proofs.laws.never_compiled_and_refused.Goals as goal

pub returns : goal.returns
returns c = not_both c.one_text_is_meant.ensures c.one_resolution.ensures c.never_held_and_not.ensures
