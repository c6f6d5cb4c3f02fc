use Rattle.i7_sentences.proofs.Speaking.{never_silent}
use Rattle.i7_sentences.proofs.laws.forms_that_fit_speak.Goals as goal

pub returns : goal.returns
returns c = never_silent
