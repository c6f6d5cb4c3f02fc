use Rattle.story_file.proofs.Outcomes.{same_tale}
use Rattle.story_file.proofs.laws.one_tale.Goals as goal

pub returns : goal.returns
returns c = same_tale c.one_text_is_meant.ensures c.one_resolution.ensures
