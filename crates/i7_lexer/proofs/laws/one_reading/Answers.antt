use Rattle.i7_lexer.proofs.LawLemmas.{tokens-same}
use Rattle.i7_lexer.proofs.laws.one_reading.Goals as goal

pub returns : goal.returns
returns c = λ source v w p q. tokens-same source v w p q
