use Rattle.std.proofs.Common.{◌∙◌, sym}
use Rattle.story_format.proofs.laws.one_spelling.Goals as goal

pub returns : goal.returns
returns c = λ a b tale h k. h.spelled ∙ sym k.spelled
