use Rattle.std.proofs.Common.{ℕ, Option, subst, ◌∙◌}
use Rattle.i7_kinds.specs.Tales.{HasLine, long_with, said_in}
use Rattle.i7_kinds.proofs.Readiness.{said_above}
use Rattle.i7_kinds.proofs.tale.said_by.Goals as goal

pub returns : goal.returns
returns c =
    let claims = c.args.claims.now in
    let sentences = c.args.sentences.now in
    let kinds = c.in_ok-kinds.kinds in
    let parents = c.as_slice.result.now in
    let above = c.as_slice.ensures.value ∙ c.in_ok-parents.ensures in
    record {
      tale = c.in_ok-said.ensures.tale ∙ said_above (λ names ps. said_in names ps claims sentences) claims kinds parents c.in_ok-kinds.ensures above;
      line =
          subst (λ (line : Option ℕ). HasLine line c.in_ok-said.said)
          (said_above (λ names ps. long_with names ps claims sentences) claims kinds parents c.in_ok-kinds.ensures above)
          c.in_ok-said.ensures.line;
    }
