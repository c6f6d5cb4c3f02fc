use Rattle.std.proofs.Common.{◌∙◌, sym, arith}
use Rattle.object_words.specs.Mentions.{number_in}
use Rattle.play_meaning.specs.Meant.{text_meant}
use Rattle.code_table.specs.Origins.{Describes}
use Rattle.code_table.proofs.Coded.{adds_by}
use Rattle.code_table.proofs.Heads.{no_number, number_is}
use Rattle.code_table.proofs.Stopped.{no_code}
use Rattle.code_table.proofs.adding.add_text.Goals as goal

pub returns-in_default-clause-none : goal.returns-in_default-clause-none
returns-in_default-clause-none c = omega (arith, no_number _ _ (sym c.number_behind.ensures ∙ c.in_default.is), c.len.ensures, c.args.out.now.tests.ok)

pub returns-in-Ok-keep-clause-coded : goal.returns-in-Ok-keep-clause-coded
returns-in-Ok-keep-clause-coded c =
    adds_by c.args.counts.now (number_in c.args.strings.now) c.args.heads (Describes (text_meant c.args.text.now)) c.in-Some.first c.args.out.now.codes.items c.args.out.now.tests.items c.keep.new.out.codes.items c.keep.new.out.tests.items c.in-Ok.emitted.items
    (omega (arith, (number_is _ _ _ (sym c.number_behind.ensures ∙ c.in-Some.is)).0, c.len.ensures, c.args.out.now.tests.ok))
    c.in-Ok.ensures.fits c.in-Ok.ensures.codes c.in-Ok.ensures.sound c.in-Ok-keep.ensures.codes c.in-Ok-keep.ensures.tests

pub returns-in-Err-clause-none : goal.returns-in-Err-clause-none
returns-in-Err-clause-none c =
    no_code c.args.counts.now (number_in c.args.strings.now) c.args.heads c.in-Some.first (Describes (text_meant c.args.text.now)) c.args.out.now.tests.items c.in-Err.fault c.not_emitted.result
    (omega (arith, (number_is _ _ _ (sym c.number_behind.ensures ∙ c.in-Some.is)).0, c.len.ensures, c.args.out.now.tests.ok)) c.not_emitted.ensures c.in-Err.ensures.too_long
