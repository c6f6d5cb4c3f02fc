use Rattle.i7_sentences.specs.Forms.{lower_forms}
use Rattle.i7_sentences.proofs.reading.lower_reading.Goals as goal

pub returns : goal.returns
unfolding lower_forms
returns c = c.in_ok-lowest_fit.ensures
