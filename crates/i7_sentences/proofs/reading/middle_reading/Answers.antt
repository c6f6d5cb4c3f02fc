use Rattle.i7_sentences.specs.Forms.{middle_forms}
use Rattle.i7_sentences.proofs.reading.middle_reading.Goals as goal

pub returns : goal.returns
unfolding middle_forms
returns c = c.in_ok-lowest_fit.ensures
