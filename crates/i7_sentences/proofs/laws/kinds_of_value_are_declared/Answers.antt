use Rattle.i7_sentences.proofs.KindsDeclared.{are_kinds}
use Rattle.i7_sentences.proofs.laws.kinds_of_value_are_declared.Goals as goal

pub returns : goal.returns
returns c = are_kinds
