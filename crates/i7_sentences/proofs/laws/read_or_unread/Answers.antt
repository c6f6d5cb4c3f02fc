use Rattle.i7_sentences.proofs.ReadingWith.{not_both, read_or_not as with_kinds}
use Rattle.i7_sentences.proofs.Sameness.{read_or_not, never_both}
use Rattle.i7_sentences.proofs.laws.read_or_unread.Goals as goal

pub returns : goal.returns
returns c = record { with_kinds = with_kinds; not_both = not_both; one = read_or_not; never_both = never_both }
