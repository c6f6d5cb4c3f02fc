use Rattle.std.proofs.Common.{refl, sym, ap, ◌∙◌}
use Rattle.object_words.specs.Mentions.{number_in}
use Rattle.play_meaning.specs.Meant.{phrase_meant}
use Rattle.story_code.specs.Fits.{branch_fits, phrase_fits}
use Rattle.story_code.proofs.FitLists.{all_end, all_step, all_stop, body_tells, choice_tells, fits_here, loop_tells, none_first, then_next}
use Rattle.story_code.proofs.fitting.phrase.+bodies.Goals as goal

pub body_fits-loop-at-preserved : goal.body_fits-loop-at-preserved
body_fits-loop-at-preserved t c =
    all_step (fits_here c.args.counts.now (number_in c.args.strings.now) c.args.loops) _ _ _ _ c.loop-at-test.true c.index-body-at.is c.loop-at.invariant c.phrase_fits.ensures c.if-not-phrase_fits.false

pub body_fits-returns-then-not-phrase_fits : goal.body_fits-returns-then-not-phrase_fits
body_fits-returns-then-not-phrase_fits t c =
    all_stop (fits_here c.args.counts.now (number_in c.args.strings.now) c.args.loops) _ _ _ _ c.loop-at-test.true c.index-body-at.is c.loop-at.invariant c.phrase_fits.ensures c.if-not-phrase_fits.true
    ∙ sym (body_tells _ _ _ c.args.body.now)

pub body_fits-returns : goal.body_fits-returns
body_fits-returns t c = all_end (fits_here c.args.counts.now (number_in c.args.strings.now) c.args.loops) _ _ c.loop-at-test.false c.loop-at.invariant ∙ sym (body_tells _ _ _ c.args.body.now)

pub branches_fit-loop-at-preserved : goal.branches_fit-loop-at-preserved
branches_fit-loop-at-preserved t c =
    all_step (branch_fits c.args.counts.now (number_in c.args.strings.now) c.args.loops) _ _ _ _ c.loop-at-test.true c.index-branches-at.is c.loop-at.invariant c.branch_fits.ensures c.if-not-branch_fits.false

pub branches_fit-returns-then-not-branch_fits : goal.branches_fit-returns-then-not-branch_fits
branches_fit-returns-then-not-branch_fits t c =
    all_stop (branch_fits c.args.counts.now (number_in c.args.strings.now) c.args.loops) _ _ _ _ c.loop-at-test.true c.index-branches-at.is c.loop-at.invariant c.branch_fits.ensures c.if-not-branch_fits.true

pub branches_fit-returns : goal.branches_fit-returns
branches_fit-returns t c = all_end (branch_fits c.args.counts.now (number_in c.args.strings.now) c.args.loops) _ _ c.loop-at-test.false c.loop-at.invariant

pub phrase_fits-returns-in-Instead : goal.phrase_fits-returns-in-Instead
unfolding phrase_fits
phrase_fits-returns-in-Instead t c =
    c.simple_fits-in-Instead.ensures ∙ ap (λ p. phrase_fits c.args.counts.now (number_in c.args.strings.now) c.args.loops (phrase_meant p)) (sym c.in-Instead.is)

pub phrase_fits-returns-then-not-branch_fits : goal.phrase_fits-returns-then-not-branch_fits
phrase_fits-returns-then-not-branch_fits t c =
    none_first _ _ _ c.branch_fits.ensures c.if-not-branch_fits.true
    ∙ sym (choice_tells _ (number_in c.args.strings.now) _ _ c.in-If.first c.in-If.branches c.in-If.others _ _ c.in-If.is refl refl)

pub phrase_fits-returns-then-not-branches_fit : goal.phrase_fits-returns-then-not-branches_fit
phrase_fits-returns-then-not-branches_fit t c =
    none_first _ _ _ c.branches_fit.ensures c.if-not-branches_fit.true ∙ then_next _ _ _ c.branch_fits.ensures c.if-not-branch_fits.false
    ∙ sym (choice_tells _ (number_in c.args.strings.now) _ _ c.in-If.first c.in-If.branches c.in-If.others _ _ c.in-If.is c.as_slice.ensures.value refl)

pub phrase_fits-returns-else-not-branches_fit : goal.phrase_fits-returns-else-not-branches_fit
phrase_fits-returns-else-not-branches_fit t c =
    c.body_fits.ensures ∙ then_next _ _ _ c.branches_fit.ensures c.if-not-branches_fit.false ∙ then_next _ _ _ c.branch_fits.ensures c.if-not-branch_fits.false
    ∙ sym (choice_tells _ (number_in c.args.strings.now) _ _ c.in-If.first c.in-If.branches c.in-If.others _ _ c.in-If.is c.as_slice.ensures.value c.as_slice-in-If.ensures.value)

pub phrase_fits-returns-then-not-test_fits : goal.phrase_fits-returns-then-not-test_fits
phrase_fits-returns-then-not-test_fits t c =
    none_first _ _ _ c.test_fits.ensures.fits c.if-not-test_fits.true
    ∙ sym (loop_tells _ (number_in c.args.strings.now) _ _ c.in-Repeat.description c.in-Repeat.phrases _ c.in-Repeat.is refl)

pub phrase_fits-returns-else-not-test_fits : goal.phrase_fits-returns-else-not-test_fits
phrase_fits-returns-else-not-test_fits t c =
    c.body_fits-in-Repeat.ensures ∙ then_next _ _ _ c.test_fits.ensures.fits c.if-not-test_fits.false
    ∙ sym (loop_tells _ (number_in c.args.strings.now) _ _ c.in-Repeat.description c.in-Repeat.phrases _ c.in-Repeat.is c.as_slice-in-Repeat.ensures.value)
