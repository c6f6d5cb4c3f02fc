use Rattle.std.proofs.Common.{◌∙◌, sym, ap, arith, drop}
use Rattle.story_code.proofs.FrontLemmas.{front_fits}
use Rattle.story_code.proofs.WalkLemmas.{meet_missed, meet_next, meet_stop, meets_end, nil_length}
use Rattle.story_code.proofs.verifying.meet.Goals as goal

pub split_at-requires : goal.split_at-requires
split_at-requires c = omega (arith, front_fits _ _ (sym c.in-Some.ensures), c.size.ensures)

pub returns-then-not-is_met : goal.returns-then-not-is_met
returns-then-not-is_met c = meet_missed _ _ _ _ _ _ _ _ (sym c.in-Some.ensures) c.is_met.ensures c.if-not-is_met.true c.loop-instruction.invariant.same

pub returns-then-not-behind : goal.returns-then-not-behind
returns-then-not-behind c =
    meet_stop _ _ _ _ _ _ _ _ _ _ _ (sym c.in-Some.ensures) c.size.ensures c.split_at.ensures.back c.first-in-Some.result c.first-in-Some.ensures c.behind.ensures c.if-not-behind.true c.loop-instruction.invariant.same

pub loop-instruction-preserved : goal.loop-instruction-preserved
loop-instruction-preserved c = record {
  same = meet_next _ _ _ _ _ _ _ _ _ _ _ _ (sym c.in-Some.ensures) c.size-place.ensures (c.split_at.ensures.back ∙ ap (λ n. drop n c.loop-instruction.rest.now) (c.size.ensures ∙ sym c.size-place.ensures)) c.is_met.ensures c.if-not-is_met.false c.first-in-Some.result c.first-in-Some.ensures c.behind.ensures c.if-not-behind.false c.loop-instruction.invariant.same;
  bound = omega (arith, c.loop-instruction.invariant.bound, c.split_at.ensures.back_len, c.size.ensures, c.size-place.ensures, front_fits _ _ (sym c.in-Some.ensures));
}

pub returns : goal.returns
returns c = c.is_empty.ensures ∙ nil_length c.loop-instruction.rest.now ∙ sym (meets_end _ _ _ _ _ (sym c.first.ensures ∙ c.in_default.is)) ∙ c.loop-instruction.invariant.same
