use Rattle.i7_sentences.proofs.RisingLines.{sentence_lines_rise}
use Rattle.i7_sentences.proofs.laws.sentence_lines_rise.Goals as goal

pub returns : goal.returns
returns c = sentence_lines_rise
