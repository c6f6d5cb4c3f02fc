use Rattle.i7_lexer.proofs.Joining.{join-mark, join-text}
use Rattle.std.proofs.Common.{refl, ◌∙◌}
use Rattle.i7_lexer.proofs.joins.front_token.Goals as goal

pub returns-in_ok-text_token-in-Text-clause-front : goal.returns-in_ok-text_token-in-Text-clause-front
returns-in_ok-text_token-in-Text-clause-front c =
    join-text c.args.first.now c.in-Text.inner c.args.after.now c.again.result _ c.in-Text.is (c.in_ok-text_token-in-Text.ensures ∙ rw c.as_slice-in-Text.ensures refl) c.again.ensures

pub returns-in-Mark-clause-front : goal.returns-in-Mark-clause-front
returns-in-Mark-clause-front c =
    join-mark c.args.first.now c.in-Mark.byte c.args.after.now c.again-in-Mark.result _ c.in-Mark.is c.mark.ensures c.again-in-Mark.ensures
