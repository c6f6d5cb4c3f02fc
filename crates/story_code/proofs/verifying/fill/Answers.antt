use Rattle.std.proofs.Common.{◌∙◌, sym, ap, arith, drop, refl}
use Rattle.std.proofs.lemmas.Grind.{common_steps}
use Rattle.story_code.specs.Passes.{if_so}
use Rattle.story_code.proofs.FrontLemmas.{front_fits}
use Rattle.story_code.proofs.WalkLemmas.{fill_next, fill_stop, fills_end}
use Rattle.story_code.proofs.verifying.fill.Goals as goal

pub split_at-requires : goal.split_at-requires
split_at-requires c = omega (arith, front_fits _ _ (sym c.in-Some.ensures), c.size.ensures)

pub returns-then-not-behind : goal.returns-then-not-behind
returns-then-not-behind c =
    fill_stop _ _ _ _ _ _ _ _ _ _ _ (sym c.in-Some.ensures) c.size.ensures c.split_at.ensures.back c.first-in-Some.result c.first-in-Some.ensures c.behind.ensures c.if-not-behind.true c.loop-instruction.invariant.same

pub loop-instruction-preserved : goal.loop-instruction-preserved
loop-instruction-preserved c = record {
  same = fill_next _ _ _ _ _ _ _ _ _ _ _ _ (sym c.in-Some.ensures) c.size-place.ensures (c.split_at.ensures.back ∙ ap (λ n. drop n c.loop-instruction.rest.now) (c.size.ensures ∙ sym c.size-place.ensures)) _ refl c.bare_scope.ensures c.first-in-Some.result c.first-in-Some.ensures c.behind.ensures c.if-not-behind.false c.loop-instruction.invariant.same;
  bound = omega (arith, c.loop-instruction.invariant.bound, c.split_at.ensures.back_len, c.size.ensures, c.size-place.ensures, front_fits _ _ (sym c.in-Some.ensures));
  table = grind (arith, common_steps, c.loop-instruction.invariant.table);
}

pub returns : goal.returns
returns c = ap (λ b. if_so b c.loop-instruction.table) c.is_closed.ensures ∙ sym (fills_end _ _ _ _ _ (sym c.first.ensures ∙ c.in_default.is)) ∙ c.loop-instruction.invariant.same
