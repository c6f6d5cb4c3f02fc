use Rattle.i7_sentences.proofs.Verdicts.{sentences_same}
use Rattle.i7_sentences.proofs.laws.one_list_of_sentences.Goals as goal

pub returns : goal.returns
returns c = sentences_same
