use Rattle.i7_lexer.proofs.LawLemmas.{refused-same}
use Rattle.i7_lexer.proofs.laws.one_refusal.Goals as goal

pub returns : goal.returns
returns c = λ source f g p q m n. refused-same f.code g.code f.line g.line source p q m n
