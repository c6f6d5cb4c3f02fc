use Rattle.story_format.proofs.FirstStories.{first_version}
use Rattle.story_format.proofs.laws.first_version_stands.Goals as goal

pub returns : goal.returns
returns c = first_version
