use Rattle.std.proofs.Common.{sym, ◌∙◌}
use Rattle.i7_grammar.proofs.laws.one_grammar.Goals as goal

pub returns : goal.returns
returns c = λ k sentences a b one other. one ∙ sym other
