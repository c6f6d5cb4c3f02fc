use Rattle.std.proofs.Common.{sym, ◌∙◌}
use Rattle.i7_lexer.proofs.Folding.{blank_step, word_step, end_step}
use Rattle.i7_lexer.specs.Texts.{folded}
use Rattle.i7_lexer.proofs.text.folded_runs.Goals as goal

pub loop-rest-preserved-then-is_blank : goal.loop-rest-preserved-then-is_blank
loop-rest-preserved-then-is_blank c =
    blank_step (folded c.args.bytes.now) c.loop-rest.out.items c.loop-rest.rest.now _ _ _ _ _ c.in-len1-up.len_at_least (sym c.is_blank.ensures ∙ c.if-is_blank.true) c.loop-rest.invariant c.space_len.ensures.value c.split_at.ensures.front c.split_at.ensures.back c.folded_run.ensures c.in_ok-extend_from_slice.ensures.items

pub loop-rest-preserved : goal.loop-rest-preserved
loop-rest-preserved c =
    word_step (folded c.args.bytes.now) c.loop-rest.out.items c.loop-rest.rest.now _ _ _ _ c.loop-rest.invariant c.unblank_len.ensures.value c.split_at-else-is_blank.ensures.front c.split_at-else-is_blank.ensures.back c.in_ok-extend_from_slice-2.ensures.items

pub returns : goal.returns
returns c =
    let step = end_step (folded c.args.bytes.now) c.loop-rest.out.items c.loop-rest.rest.now c.in_default.len_below c.loop-rest.invariant in
    cc
