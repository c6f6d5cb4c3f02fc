use Rattle.i7_sentences.specs.Forms.{higher_forms}
use Rattle.i7_sentences.proofs.reading.higher_reading.Goals as goal

pub returns : goal.returns
unfolding higher_forms
returns c = c.in_ok-lowest_fit.ensures
