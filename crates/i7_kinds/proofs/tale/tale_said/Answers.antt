use Rattle.std.proofs.Common.{ℕ, Option, ◌∙◌, ap, subst}
use Rattle.i7_kinds.specs.Actions.{actions_said, with_actions}
use Rattle.i7_kinds.specs.Tales.{HasLine, long_by, said_by}
use Rattle.i7_kinds.proofs.tale.tale_said.Goals as goal

pub returns : goal.returns
returns c =
    record {
      tale =
          c.with_actions.ensures.tale
          ∙ (λ i. with_actions ((c.in_ok-actions.ensures ∙ ap actions_said c.sentences-sentences.ensures) i)
          ((c.in_ok-said.ensures.tale ∙ (λ j. said_by (c.claims.ensures j) (c.sentences-sentences.ensures j))) i));
      line = c.with_actions.ensures.line _ (subst (λ (line : Option ℕ). HasLine line c.in_ok-said.said) (λ i. long_by (c.claims.ensures i) (c.sentences-sentences.ensures i)) c.in_ok-said.ensures.line);
    }
