use Rattle.std.proofs.Common.{subst}
use Rattle.i7_sentences.proofs.Choosing.{ReadAs, read_as}
use Rattle.i7_sentences.proofs.ReadingWith.{ReadWith, found_with}
use Rattle.i7_sentences.proofs.laws.found_is_read.Goals as goal

pub returns : goal.returns
returns c = record {
  with_kinds = λ kinds words found is. subst (ReadWith kinds words) is (found_with kinds words);
  some = λ forms words found is. subst (ReadAs forms words) is (read_as forms words);
  none = λ forms words is. subst (ReadAs forms words) is (read_as forms words);
}
