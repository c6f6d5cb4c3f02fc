use Rattle.story_file.specs.Meanings.{scope_said}
use Rattle.story_file.proofs.ObjectTexts.{text_said}
use Rattle.story_file.proofs.laws.objects_have_their_texts.Goals as goal

pub returns : goal.returns
returns c = λ sentences tale said n object bytes meant. text_said (scope_said sentences) tale.objects said.texts n object bytes meant.texts_are
