use Rattle.std.proofs.lemmas.Bool.Decides.{not_from_Decides}
use Rattle.std.proofs.lemmas.Result.{IfErr-weaker, IfOk-weaker}
use Rattle.object_words.specs.Mentions.{number_in}
use Rattle.play_meaning.specs.Meant.{body_meant}
use Rattle.story_code.specs.Emits.{whole_body}
use Rattle.story_code.proofs.SoundAnywhere.{body_anywhere}
use Rattle.story_code.proofs.ShortWholes.{bodies_fit, only_memory}
use Rattle.story_code.proofs.emit.body_codes.Goals as goal

pub returns-then-not-body_fits-clause-too_long : goal.returns-then-not-body_fits-clause-too_long
returns-then-not-body_fits-clause-too_long c = λ told fits.
    absurd (not_from_Decides c.body_fits.result (c.body_fits.ensures c.args.counts.now.own c.args.counts.now.codes) c.if-not-body_fits.true fits)

pub returns-clause-codes : goal.returns-clause-codes
returns-clause-codes c = c.finish.ensures.codes c.args.first (whole_body (number_in c.args.strings.now) (body_meant c.args.body.now)) c.in-Ok.ensures

pub returns-clause-fits : goal.returns-clause-fits
returns-clause-fits c =
    IfOk-weaker c.finish.result _ _ (λ codes emitted own count. (c.body_fits.ensures own count).0 c.if-not-body_fits.false)
    (c.finish.ensures.codes c.args.first (whole_body (number_in c.args.strings.now) (body_meant c.args.body.now)) c.in-Ok.ensures)

pub returns-clause-sound : goal.returns-clause-sound
returns-clause-sound c =
    IfOk-weaker c.finish.result _ _ (λ codes. body_anywhere c.args.counts.now c.args.first c.body_fits.result c.if-not-body_fits.false codes.items (number_in c.args.strings.now) (body_meant c.args.body.now) c.body_fits.ensures)
    (c.finish.ensures.codes c.args.first (whole_body (number_in c.args.strings.now) (body_meant c.args.body.now)) c.in-Ok.ensures)

pub returns-clause-too_long : goal.returns-clause-too_long
returns-clause-too_long c =
    IfErr-weaker c.finish.result _ _ (λ fault told is fits. told is) (c.finish.ensures.too_long c.args.first (whole_body (number_in c.args.strings.now) (body_meant c.args.body.now)) c.in-Ok.ensures)

pub returns-then-not-body_fits-clause-short : goal.returns-then-not-body_fits-clause-short
returns-then-not-body_fits-clause-short c = λ short numbered.
    absurd (not_from_Decides c.body_fits.result (c.body_fits.ensures c.args.counts.now.own c.args.counts.now.codes) c.if-not-body_fits.true ((bodies_fit c.args.counts.now (number_in c.args.strings.now) c.args.first (body_meant c.args.body.now) c.told_in_two_bytes.ensures short).0 c.args.counts.now.own c.args.counts.now.codes))

pub returns-clause-short : goal.returns-clause-short
returns-clause-short c = λ short numbered.
    IfErr-weaker c.finish.result _ _ (λ fault told. only_memory fault _ told ((bodies_fit c.args.counts.now (number_in c.args.strings.now) c.args.first (body_meant c.args.body.now) c.told_in_two_bytes.ensures short).1.said numbered))
    (c.finish.ensures.too_long c.args.first (whole_body (number_in c.args.strings.now) (body_meant c.args.body.now)) c.in-Ok.ensures)

pub returns-clause-unfit : goal.returns-clause-unfit
returns-clause-unfit c = λ unfit. absurd (unfit ((c.body_fits.ensures c.args.counts.now.own c.args.counts.now.codes).0 c.if-not-body_fits.false))

pub returns-in_default-clause-unfit : goal.returns-in_default-clause-unfit
returns-in_default-clause-unfit c = λ unfit. absurd (unfit ((c.body_fits.ensures c.args.counts.now.own c.args.counts.now.codes).0 c.if-not-body_fits.false))
