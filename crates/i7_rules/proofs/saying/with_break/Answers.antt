use Rattle.std.proofs.Common.{ap, ◌∙◌}
use Rattle.std.specs.Prelude.{[], ◌∷◌, ◌++◌}
use Rattle.play_meaning.specs.Meant.{parts_meant}
use Rattle.play_meaning.specs.declared.tree.said.Piece.TheVariants.{Bytes}
use Rattle.play_meaning.specs.declared.tree.said.Said.TheVariants.{Plain}
use Rattle.i7_rules.proofs.Breaks.{broken}
use Rattle.i7_rules.proofs.saying.with_break.Goals as goal

pub returns : goal.returns
returns c =
    ap parts_meant (c.in_ok-push.ensures.items ∙ ap (λ bytes. c.args.text.parts.items ++ Plain (Bytes bytes) ∷ []) c.in_ok-line_break.ensures) ∙ broken c.args.text.parts.items
