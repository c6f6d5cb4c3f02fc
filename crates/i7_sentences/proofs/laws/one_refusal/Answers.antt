use Rattle.i7_sentences.proofs.Verdicts.{refusals_same}
use Rattle.i7_sentences.proofs.laws.one_refusal.Goals as goal

pub returns : goal.returns
returns c = refusals_same
