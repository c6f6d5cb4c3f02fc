use Rattle.i7_kinds.proofs.LinesRise.{statements_rise}
use Rattle.i7_kinds.proofs.refusal_laws.lines_rise_with_those_of_sentences.Goals as goal

pub returns : goal.returns
returns c = statements_rise
