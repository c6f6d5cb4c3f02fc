use Rattle.story_format.proofs.ReadingLemmas.{not_refused}
use Rattle.story_format.proofs.laws.stories_stand.Goals as goal

pub returns : goal.returns
returns c = λ bytes tale fault h k. not_refused bytes tale fault h k
