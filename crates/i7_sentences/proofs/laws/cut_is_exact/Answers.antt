use Rattle.i7_sentences.proofs.Seams.{is_cut, one_cut}
use Rattle.i7_sentences.proofs.laws.cut_is_exact.Goals as goal

pub returns : goal.returns
returns c = record { made = is_cut; alone = one_cut }
