use Rattle.std.proofs.Common.{arith, sym, ap, ◌∙◌, ◌∷◌}
use Rattle.i7_lexer.specs.Lexing.{placed_in}
use Rattle.i7_lexer.proofs.Cutting.{next-within}
use Rattle.i7_lexer.proofs.Placing.{placed-kept, placed-passed}
use Rattle.i7_lexer.proofs.placed.Places.first.Goals as goal

pub after-behind-requires-clause-lines : goal.after-behind-requires-clause-lines
after-behind-requires-clause-lines c =
    let within = next-within c.loop-lexeme.rest.now c.in-Some.lexeme c.in-Some.after.now c.in-Some.ensures in
    omega (arith, c.loop-lexeme.invariant.1, within.0, within.1)

pub after-behind-requires-clause-short : goal.after-behind-requires-clause-short
after-behind-requires-clause-short c =
    let within = next-within c.loop-lexeme.rest.now c.in-Some.lexeme c.in-Some.after.now c.in-Some.ensures in
    omega (arith, c.loop-lexeme.invariant.1, within.0)

pub invariant_of-result : goal.invariant_of-result
invariant_of-result c =
    let within = next-within c.loop-lexeme.rest.now c.in-Some.lexeme c.in-Some.after.now c.in-Some.ensures in
    omega (arith, ap (λ t. t.line) c.after-behind.ensures, c.loop-lexeme.invariant.1, within.0, within.1)

pub returns-in-Kept : goal.returns-in-Kept
returns-in-Kept c =
    sym c.loop-lexeme.invariant.0 ∙ (placed-kept c.loop-lexeme.at c.loop-lexeme.rest.now c.in-Some.lexeme c.in-Kept.piece c.in-Some.after.now c.in-Some.ensures c.in-Kept.is ∙ ap (λ t. record { piece = c.in-Kept.piece; at = c.loop-lexeme.at } ∷ placed_in t c.in-Some.after.now) (sym c.after-behind.ensures))

pub loop-lexeme-smaller : goal.loop-lexeme-smaller
loop-lexeme-smaller c =
    (next-within c.loop-lexeme.rest.now c.in-Some.lexeme c.in-Some.after.now c.in-Some.ensures).2

pub loop-lexeme-preserved : goal.loop-lexeme-preserved
loop-lexeme-preserved c =
    let within = next-within c.loop-lexeme.rest.now c.in-Some.lexeme c.in-Some.after.now c.in-Some.ensures in (
      ap (λ t. placed_in t c.in-Some.after.now) c.after-behind.ensures ∙ (sym (placed-passed c.loop-lexeme.at c.loop-lexeme.rest.now c.in-Some.lexeme c.in-Some.after.now c.in-Some.ensures c.in_default-lexeme.not-Kept) ∙ c.loop-lexeme.invariant.0),
      omega (arith, ap (λ t. t.line) c.after-behind.ensures, c.loop-lexeme.invariant.1, within.0, within.1),
    )
