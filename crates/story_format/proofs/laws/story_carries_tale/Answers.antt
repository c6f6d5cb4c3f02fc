use Rattle.story_format.proofs.Carried.{tale_carried}
use Rattle.story_format.proofs.laws.story_carries_tale.Goals as goal

pub returns : goal.returns
returns c = λ tale said held are. tale_carried tale said held are
