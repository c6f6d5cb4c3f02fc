use Rattle.std.proofs.Common.{◌∙◌, ap, sym}
use Rattle.std.specs.Prelude.{fold}
use Rattle.object_words.specs.Mentions.{mention}
use Rattle.play_meaning.specs.Meant.{phrase_meant}
use Rattle.play_meaning.specs.Translation.{strings_of_phrase}
use Rattle.story_format.proofs.RuleStrings.{body_end, body_step, branches_end, branches_step, choice_mentioned, loop_says, on_ok}
use Rattle.story_format.proofs.mentioning_rules.+bodies.Goals as goal

pub mention_body-loop-at-preserved : goal.mention_body-loop-at-preserved
mention_body-loop-at-preserved t c = body_step _ _ _ _ c.loop-at.at _ c.loop-at-test.true c.index-body-at.is c.loop-at.invariant c.in_ok-mention_phrase.ensures

pub mention_body-returns : goal.mention_body-returns
mention_body-returns t c = body_end _ _ _ c.loop-at.at c.loop-at-test.false c.loop-at.invariant

pub mention_branches-loop-at-preserved : goal.mention_branches-loop-at-preserved
mention_branches-loop-at-preserved t c = branches_step _ _ _ _ c.loop-at.at _ c.loop-at-test.true c.index-branches-at.is c.loop-at.invariant c.in_ok-mention_branch.ensures

pub mention_branches-returns : goal.mention_branches-returns
mention_branches-returns t c = branches_end _ _ _ c.loop-at.at c.loop-at-test.false c.loop-at.invariant

pub mention_phrase-returns-in-Instead : goal.mention_phrase-returns-in-Instead
unfolding strings_of_phrase
mention_phrase-returns-in-Instead t c =
    on_ok c.mention_simple-in-Instead.result (λ is. is ∙ ap (λ p. fold mention c.args.strings.now (strings_of_phrase (phrase_meant p))) (sym c.in-Instead.is)) c.mention_simple-in-Instead.ensures

pub mention_phrase-returns-in_ok-mention_branches-in-If : goal.mention_phrase-returns-in_ok-mention_branches-in-If
mention_phrase-returns-in_ok-mention_branches-in-If t c =
    on_ok c.mention_body.result
    (λ is. choice_mentioned _ _ _ _ _ c.in-If.first c.in-If.branches c.in-If.others _ _ c.in-If.is c.as_slice.ensures.value c.as_slice-in-If.ensures.value c.in_ok-mention_branch-in-If.ensures c.in_ok-mention_branches-in-If.ensures is)
    c.mention_body.ensures

pub mention_phrase-returns-in-Repeat : goal.mention_phrase-returns-in-Repeat
mention_phrase-returns-in-Repeat t c =
    on_ok c.mention_body-in-Repeat.result
    (λ is. is ∙ ap (fold mention c.args.strings.now) (loop_says _ c.in-Repeat.field-0 c.in-Repeat.phrases _ c.in-Repeat.is c.as_slice-in-Repeat.ensures.value))
    c.mention_body-in-Repeat.ensures
