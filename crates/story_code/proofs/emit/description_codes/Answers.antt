use Rattle.std.proofs.lemmas.Bool.Decides.{not_from_Decides}
use Rattle.std.proofs.lemmas.Result.{IfErr-weaker, IfOk-weaker}
use Rattle.object_words.specs.Mentions.{number_in}
use Rattle.play_meaning.specs.Meant.{text_meant}
use Rattle.play_meaning.specs.TranslatedScripts.{description_part}
use Rattle.story_code.proofs.SoundAnywhere.{description_anywhere}
use Rattle.story_code.proofs.ShortWholes.{descriptions_fit, only_memory}
use Rattle.story_code.proofs.emit.description_codes.Goals as goal

pub returns-then-not-description_fits-clause-too_long : goal.returns-then-not-description_fits-clause-too_long
returns-then-not-description_fits-clause-too_long c = λ told fits.
    absurd (not_from_Decides c.description_fits.result (c.description_fits.ensures c.args.counts.now.own c.args.counts.now.codes) c.if-not-description_fits.true fits)

pub returns-clause-codes : goal.returns-clause-codes
returns-clause-codes c = c.finish.ensures.codes c.args.first (description_part (number_in c.args.strings.now) (text_meant c.args.text.now)) c.in-Ok.ensures

pub returns-clause-fits : goal.returns-clause-fits
returns-clause-fits c =
    IfOk-weaker c.finish.result _ _ (λ codes emitted own count. (c.description_fits.ensures own count).0 c.if-not-description_fits.false)
    (c.finish.ensures.codes c.args.first (description_part (number_in c.args.strings.now) (text_meant c.args.text.now)) c.in-Ok.ensures)

pub returns-clause-sound : goal.returns-clause-sound
returns-clause-sound c =
    IfOk-weaker c.finish.result _ _ (λ codes. description_anywhere c.args.counts.now c.args.first c.description_fits.result c.if-not-description_fits.false codes.items (number_in c.args.strings.now) (text_meant c.args.text.now) c.description_fits.ensures)
    (c.finish.ensures.codes c.args.first (description_part (number_in c.args.strings.now) (text_meant c.args.text.now)) c.in-Ok.ensures)

pub returns-clause-too_long : goal.returns-clause-too_long
returns-clause-too_long c =
    IfErr-weaker c.finish.result _ _ (λ fault told is fits. told is) (c.finish.ensures.too_long c.args.first (description_part (number_in c.args.strings.now) (text_meant c.args.text.now)) c.in-Ok.ensures)

pub returns-then-not-description_fits-clause-short : goal.returns-then-not-description_fits-clause-short
returns-then-not-description_fits-clause-short c = λ short numbered.
    absurd (not_from_Decides c.description_fits.result (c.description_fits.ensures c.args.counts.now.own c.args.counts.now.codes) c.if-not-description_fits.true ((descriptions_fit c.args.counts.now (number_in c.args.strings.now) c.args.first (text_meant c.args.text.now) c.told_in_two_bytes.ensures short).0 c.args.counts.now.own c.args.counts.now.codes))

pub returns-clause-short : goal.returns-clause-short
returns-clause-short c = λ short numbered.
    IfErr-weaker c.finish.result _ _ (λ fault told. only_memory fault _ told ((descriptions_fit c.args.counts.now (number_in c.args.strings.now) c.args.first (text_meant c.args.text.now) c.told_in_two_bytes.ensures short).1.said numbered))
    (c.finish.ensures.too_long c.args.first (description_part (number_in c.args.strings.now) (text_meant c.args.text.now)) c.in-Ok.ensures)

pub returns-clause-unfit : goal.returns-clause-unfit
returns-clause-unfit c = λ unfit. absurd (unfit ((c.description_fits.ensures c.args.counts.now.own c.args.counts.now.codes).0 c.if-not-description_fits.false))

pub returns-in_default-clause-unfit : goal.returns-in_default-clause-unfit
returns-in_default-clause-unfit c = λ unfit. absurd (unfit ((c.description_fits.ensures c.args.counts.now.own c.args.counts.now.codes).0 c.if-not-description_fits.false))
