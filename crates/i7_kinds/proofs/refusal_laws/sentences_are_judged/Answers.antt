use Rattle.i7_kinds.proofs.Judged.{judged}
use Rattle.i7_kinds.proofs.refusal_laws.sentences_are_judged.Goals as goal

pub returns : goal.returns
returns c = judged
