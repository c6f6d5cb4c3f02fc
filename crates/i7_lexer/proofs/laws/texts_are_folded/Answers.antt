use Rattle.i7_lexer.proofs.FoldingLaws.{folded_is, folded_from}
use Rattle.i7_lexer.proofs.laws.texts_are_folded.Goals as goal

pub returns : goal.returns
returns c = record { reads = folded_is; alone = folded_from }
