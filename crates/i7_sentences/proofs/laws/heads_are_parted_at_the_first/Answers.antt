use Rattle.i7_sentences.proofs.Parting.{parted_at_first}
use Rattle.i7_sentences.proofs.laws.heads_are_parted_at_the_first.Goals as goal

pub returns : goal.returns
returns c = parted_at_first
