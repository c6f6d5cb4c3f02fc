use Rattle.story_code.proofs.SaidTexts.{texts_said}
use Rattle.story_code.proofs.laws.descriptions_say_their_texts.Goals as goal

pub returns : goal.returns
returns c = texts_said
