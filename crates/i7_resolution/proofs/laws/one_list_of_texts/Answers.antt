use Rattle.i7_resolution.proofs.OneAnswer.{texts_once}
use Rattle.i7_resolution.proofs.laws.one_list_of_texts.Goals as goal

pub returns : goal.returns
returns c = texts_once c.one_text_is_meant.ensures
