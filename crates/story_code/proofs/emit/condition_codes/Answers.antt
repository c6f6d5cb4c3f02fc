use Rattle.std.proofs.lemmas.Bool.Decides.{not_from_Decides}
use Rattle.std.proofs.lemmas.Result.{IfErr-weaker, IfOk-weaker}
use Rattle.play_meaning.specs.Meant.{condition_meant}
use Rattle.play_meaning.specs.TranslatedScripts.{test_part}
use Rattle.story_code.proofs.SoundAnywhere.{condition_anywhere}
use Rattle.story_code.proofs.ShortWholes.{conditions_fit, only_memory}
use Rattle.story_code.proofs.emit.condition_codes.Goals as goal

pub returns-then-not-condition_fits-clause-too_long : goal.returns-then-not-condition_fits-clause-too_long
returns-then-not-condition_fits-clause-too_long c = λ told fits.
    absurd (not_from_Decides c.condition_fits.result (c.condition_fits.ensures c.args.counts.now.own c.args.counts.now.codes) c.if-not-condition_fits.true fits)

pub returns-clause-codes : goal.returns-clause-codes
returns-clause-codes c = c.finish.ensures.codes c.args.first (test_part (condition_meant c.args.condition.now)) c.in-Ok.ensures

pub returns-clause-fits : goal.returns-clause-fits
returns-clause-fits c =
    IfOk-weaker c.finish.result _ _ (λ codes emitted own count. (c.condition_fits.ensures own count).0 c.if-not-condition_fits.false)
    (c.finish.ensures.codes c.args.first (test_part (condition_meant c.args.condition.now)) c.in-Ok.ensures)

pub returns-clause-sound : goal.returns-clause-sound
returns-clause-sound c =
    IfOk-weaker c.finish.result _ _ (λ codes. condition_anywhere c.args.counts.now c.args.first c.condition_fits.result c.if-not-condition_fits.false codes.items (condition_meant c.args.condition.now) c.condition_fits.ensures)
    (c.finish.ensures.codes c.args.first (test_part (condition_meant c.args.condition.now)) c.in-Ok.ensures)

pub returns-clause-too_long : goal.returns-clause-too_long
returns-clause-too_long c =
    IfErr-weaker c.finish.result _ _ (λ fault told is fits. told is) (c.finish.ensures.too_long c.args.first (test_part (condition_meant c.args.condition.now)) c.in-Ok.ensures)

pub returns-then-not-condition_fits-clause-short : goal.returns-then-not-condition_fits-clause-short
returns-then-not-condition_fits-clause-short c = λ short numbered.
    absurd (not_from_Decides c.condition_fits.result (c.condition_fits.ensures c.args.counts.now.own c.args.counts.now.codes) c.if-not-condition_fits.true ((conditions_fit c.args.counts.now c.args.first (condition_meant c.args.condition.now) c.told_in_two_bytes.ensures short).0 c.args.counts.now.own c.args.counts.now.codes))

pub returns-clause-short : goal.returns-clause-short
returns-clause-short c = λ short numbered.
    IfErr-weaker c.finish.result _ _ (λ fault told. only_memory fault _ told ((conditions_fit c.args.counts.now c.args.first (condition_meant c.args.condition.now) c.told_in_two_bytes.ensures short).1.said numbered))
    (c.finish.ensures.too_long c.args.first (test_part (condition_meant c.args.condition.now)) c.in-Ok.ensures)

pub returns-clause-unfit : goal.returns-clause-unfit
returns-clause-unfit c = λ unfit. absurd (unfit ((c.condition_fits.ensures c.args.counts.now.own c.args.counts.now.codes).0 c.if-not-condition_fits.false))

pub returns-in_default-clause-unfit : goal.returns-in_default-clause-unfit
returns-in_default-clause-unfit c = λ unfit. absurd (unfit ((c.condition_fits.ensures c.args.counts.now.own c.args.counts.now.codes).0 c.if-not-condition_fits.false))
