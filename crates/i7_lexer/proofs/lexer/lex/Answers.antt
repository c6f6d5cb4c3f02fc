use Rattle.std.proofs.Common.{ap, refl, sym, ◌∙◌}
use Rattle.std.proofs.lemmas.Result.{err_from_is_err_and}
use Rattle.i7_lexer.specs.Lexing.{placed_in}
use Rattle.i7_lexer.specs.Places.{at_front}
use Rattle.i7_lexer.proofs.Verdicts.{unclosed, deep, lexed}
use Rattle.i7_lexer.proofs.Depths.{told-deep, told-shallow}
use Rattle.i7_lexer.proofs.lexer.lex.Goals as goal

pub returns-in_err-found : goal.returns-in_err-found
returns-in_err-found c =
    let p = err_from_is_err_and c.from_residual-in_err-found.result c.from_residual-in_err-found.ensures.1 in
    let fault = c.in_err-found.ensures.fault in
    rw (p.1, p.2) (unclosed _ _ c.args.source.now c.as_slice.result.now c.as_slice-2.result.now (c.as_slice.ensures.value ∙ c.in-Ok.ensures.value) (c.as_slice-2.ensures.value ∙ c.in-Ok.ensures.value) c.in_ok-refuse_long.ensures.short c.in_ok-refuse_controls.ensures.text fault.0 fault.1)

pub returns-in_err-refuse_depth : goal.returns-in_err-refuse_depth
returns-in_err-refuse_depth c =
    let p = err_from_is_err_and c.from_residual-in_err-refuse_depth.result c.from_residual-in_err-refuse_depth.ensures.1 in
    let fault = c.in_err-refuse_depth.ensures.fault in
    let placed = placed_in at_front c.as_slice-2.result.now in
    rw (p.1, p.2) (deep _ _ c.args.source.now c.as_slice.result.now c.as_slice-2.result.now placed placed (c.as_slice.ensures.value ∙ c.in-Ok.ensures.value) (c.as_slice-2.ensures.value ∙ c.in-Ok.ensures.value) refl c.in_ok-refuse_long.ensures.short c.in_ok-refuse_controls.ensures.text c.in_ok-found.ensures.placed fault.0 (told-deep placed c.in_ok-found.found.deep _ c.in_ok-found.ensures.depth fault.1))

pub returns-in-Ok-tokens_of : goal.returns-in-Ok-tokens_of
returns-in-Ok-tokens_of c =
    let placed = placed_in at_front c.as_slice-2.result.now in
    let same = c.new.ensures ∙ ap (placed_in at_front) (c.as_slice-3.ensures.value ∙ sym c.as_slice-2.ensures.value) in
    lexed c.args.source.now c.as_slice.result.now c.as_slice-2.result.now placed placed c.new.result _ _ (c.as_slice.ensures.value ∙ c.in-Ok.ensures.value) (c.as_slice-2.ensures.value ∙ c.in-Ok.ensures.value) refl same c.in_ok-refuse_long.ensures.short c.in_ok-refuse_controls.ensures.text c.in_ok-found.ensures.placed (told-shallow placed c.in_ok-found.found.deep c.in_ok-found.ensures.depth c.in_ok-refuse_depth.ensures.shallow) c.in-Ok-tokens_of.ensures c.new-in-Ok-tokens_of.ensures
