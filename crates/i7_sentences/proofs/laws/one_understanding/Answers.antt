use Rattle.std.proofs.Common.{subst}
use Rattle.i7_sentences.proofs.Understood.{Understood, found_understood, understood_or_not, understood_same}
use Rattle.i7_sentences.proofs.laws.one_understanding.Goals as goal

pub returns : goal.returns
returns c = record {
  one = understood_same;
  not_both = understood_or_not;
  some = λ kinds words found is. subst (Understood kinds words) is (found_understood kinds words);
  none = λ kinds words is. subst (Understood kinds words) is (found_understood kinds words);
}
