use Rattle.std.proofs.Common.{sym, ◌∙◌}
use Rattle.i7_sentences.proofs.Marking.{unmarked_fits}
use Rattle.i7_sentences.proofs.matcher.is_passed_over.Goals as goal

pub returns-then-lacks_sign : goal.returns-then-lacks_sign
returns-then-lacks_sign c = λ passed. unmarked_fits c.args.pieces.now c.args.tokens.now c.args.signs.now c.requires (sym c.lacks_sign.ensures ∙ c.if-lacks_sign.true)
