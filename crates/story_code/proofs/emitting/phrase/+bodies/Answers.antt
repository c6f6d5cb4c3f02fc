use Rattle.std.proofs.Common.{◌+◌, refl, sym, ap, ◌∙◌}
use Rattle.object_words.specs.Mentions.{number_in}
use Rattle.play_meaning.specs.Composed.{if_meant, repeat_meant}
use Rattle.play_meaning.specs.Meant.{body_meant, description_meant, phrase_meant, simple_meant}
use Rattle.play_meaning.specs.Translation.{body_part, one, phrase_part, test_code, testing}
use Rattle.play_meaning.specs.declared.instruction.Instruction.TheVariants.{Failure}
use Rattle.story_code.specs.Choosing.{landed}
use Rattle.story_code.specs.Emitting.{emitted, named, place_in}
use Rattle.story_code.specs.declared.emitting.tested.Tested.TheVariants as tested
use Rattle.story_code.proofs.Aimed.{loop_emitted}
use Rattle.story_code.proofs.Followed.{emitted_seq}
use Rattle.story_code.proofs.Landed.{branch_is, branches_step, choice_landed}
use Rattle.story_code.proofs.Phrases.{body_end, body_step, loop_lost, lost_stays}
use Rattle.story_code.proofs.emitting.phrase.+bodies.Goals as goal

pub emit_body-loop-at-preserved : goal.emit_body-loop-at-preserved
emit_body-loop-at-preserved t c = body_step _ _ _ _ _ _ c.loop-at.at _ c.loop-at-test.true c.index-body-at.is c.loop-at.invariant c.in_ok-emit_phrase.ensures

pub emit_body-returns : goal.emit_body-returns
emit_body-returns t c = body_end _ _ _ _ _ c.loop-at.at c.loop-at-test.false c.fits.ensures.settled c.loop-at.invariant

pub emit_branches-loop-at-preserved : goal.emit_branches-loop-at-preserved
emit_branches-loop-at-preserved t c = branches_step _ _ _ _ _ _ c.loop-at.at _ c.loop-at-test.true c.index-branches-at.is c.loop-at.invariant c.in_ok-emit_branch.ensures

pub emit_branch-returns : goal.emit_branch-returns
emit_branch-returns t c =
    branch_is _ _ _ _ _ _ _ _ _ _ _ _ _ _ c.in_ok-emit_condition.ensures c.count-past.ensures c.in_ok-push.ensures c.as_slice.ensures.value c.in_ok-emit_body.ensures c.count-last.ensures c.in_ok-push-2.ensures c.place-next.ensures c.in_ok-push-3.ensures.items

pub emit_phrase-returns-in_ok-emit_body-in-If : goal.emit_phrase-returns-in_ok-emit_body-in-If
emit_phrase-returns-in_ok-emit_body-in-If t c =
    choice_landed (number_in c.args.strings.now) c.args.loops _ _ _ _ _ _ _ _ _ _ _ c.new-leaps.ensures.items c.in_ok-emit_branch-in-If.ensures c.in_ok-emit_branches-in-If.ensures c.in_ok-emit_body-in-If.ensures
    (c.land.ensures ∙ ap (λ leaps. landed (place_in c.emit_body.new.out.kept) leaps c.emit_body.new.out) c.as_slice-in-If-2.ensures.value)
    ∙ ap (λ phrase. emitted c.args.out.now (phrase_part (number_in c.args.strings.now) c.args.loops phrase)) (if_meant _ _ _ _ _ _ c.in-If.is c.as_slice.ensures.value c.as_slice-in-If.ensures.value)

pub emit_phrase-returns-then-not-fits : goal.emit_phrase-returns-then-not-fits
emit_phrase-returns-then-not-fits t c = lost_stays _ _ (sym c.if-not-fits.true ∙ c.fits.ensures.kept)

pub emit_phrase-returns-in_ok-push-in-Instead : goal.emit_phrase-returns-in_ok-push-in-Instead
unfolding phrase_part
emit_phrase-returns-in_ok-push-in-Instead t c =
    let string = number_in c.args.strings.now in
    let done = phrase_part string c.args.loops (simple_meant c.in-Instead.simple) in
    c.in_ok-push-in-Instead.ensures ∙ ap (λ s. emitted s (one Failure)) c.in_ok-emit_simple-in-Instead.ensures
    ∙ emitted_seq c.args.out.now done (one Failure)
    ∙ ap (λ p. emitted c.args.out.now (phrase_part string c.args.loops (phrase_meant p))) (sym c.in-Instead.is)

pub emit_phrase-returns-then-not-branch : goal.emit_phrase-returns-then-not-branch
unfolding phrase_part
emit_phrase-returns-then-not-branch t c =
    let string = number_in c.args.strings.now in
    loop_lost _ _ _ (test_code c.args.loops (description_meant c.in-Repeat.description)) (body_part string (c.args.loops + 1) (body_meant c.in-Repeat.phrases.items)) c.in_ok-emit_begin-in-Repeat.ensures.begun (sym c.if-not-branch.true ∙ c.in_ok-emit_begin-in-Repeat.ensures.kept)
    ∙ ap (λ phrase. emitted c.args.out.now (phrase_part string c.args.loops phrase)) (repeat_meant _ _ _ _ c.in-Repeat.is refl)

pub emit_phrase-returns-in_ok-push-in-Repeat : goal.emit_phrase-returns-in_ok-push-in-Repeat
unfolding phrase_part
emit_phrase-returns-in_ok-push-in-Repeat t c =
    let string = number_in c.args.strings.now in
    loop_emitted _ _ _ _ _ _ _ _ _ _ _ _ c.in_ok-emit_begin-in-Repeat.ensures.begun (sym c.if-not-branch.false ∙ c.in_ok-emit_begin-in-Repeat.ensures.kept) c.place-head.ensures c.count-turn.ensures
    (c.in_ok-push_test-in-Repeat.ensures ∙ ap (λ test. emitted c.emit_begin.new.out (testing (named (tested.Next c.args.loops)) test)) c.in_ok-test-in-Repeat.ensures)
    c.in_ok-emit_body-in-Repeat.ensures c.in_ok-push-in-Repeat.ensures c.place-exit.ensures c.aim.ensures
    ∙ ap (λ phrase. emitted c.args.out.now (phrase_part string c.args.loops phrase)) (repeat_meant _ _ _ _ c.in-Repeat.is c.as_slice-in-Repeat.ensures.value)
