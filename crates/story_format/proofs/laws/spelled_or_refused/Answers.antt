use Rattle.story_format.proofs.ReadingLemmas.{story_or_refused}
use Rattle.story_format.proofs.laws.spelled_or_refused.Goals as goal

pub returns : goal.returns
returns c = λ bytes fits. story_or_refused bytes fits
