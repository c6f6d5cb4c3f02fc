use Rattle.i7_lexer.proofs.LawLemmas.{spelled-refused}
use Rattle.i7_lexer.proofs.Totality.{spelled_or_not}
use Rattle.i7_lexer.proofs.laws.spelled_or_refused.Goals as goal

pub returns : goal.returns
returns c = record {
  one = spelled_or_not;
  never_both = λ source tokens fault p q. spelled-refused fault.code fault.line source tokens p q;
}
