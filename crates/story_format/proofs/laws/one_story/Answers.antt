use Rattle.story_format.proofs.ReadingLemmas.{same_story}
use Rattle.story_format.proofs.laws.one_story.Goals as goal

pub returns : goal.returns
returns c = λ bytes tale other h k. same_story bytes tale other h k
