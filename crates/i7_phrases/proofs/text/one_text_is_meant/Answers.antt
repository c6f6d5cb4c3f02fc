use Rattle.i7_phrases.proofs.Ahead.{text_once}
use Rattle.i7_phrases.proofs.Substituted.{substituted_once}
use Rattle.i7_phrases.proofs.text.one_text_is_meant.Goals as goal

pub returns : goal.returns
returns c = λ s. text_once s (substituted_once s (c.one_number_is_meant.ensures s) (c.one_object_is_meant.ensures s) (c.one_description_is_meant.ensures s)) (c.one_condition_is_meant.ensures s)
