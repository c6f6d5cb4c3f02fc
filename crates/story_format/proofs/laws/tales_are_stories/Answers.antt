use Rattle.story_format.proofs.Stories.{tale_is_story}
use Rattle.story_format.proofs.laws.tales_are_stories.Goals as goal

pub returns : goal.returns
returns c = λ tale said held are. tale_is_story tale said held are
