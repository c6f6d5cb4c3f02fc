use Rattle.story_format.proofs.PlainTexts.{plain_held}
use Rattle.story_format.proofs.laws.plain_texts_are_held.Goals as goal

pub returns : goal.returns
returns c = plain_held
