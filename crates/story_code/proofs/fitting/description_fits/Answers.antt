use Rattle.std.proofs.lemmas.Bool.Decides.{Decides-at}
use Rattle.object_words.specs.Mentions.{number_in}
use Rattle.play_meaning.specs.Meant.{text_meant}
use Rattle.play_meaning.specs.declared.operand.Use.TheVariants as role
use Rattle.story_code.proofs.FitsTold.{text_told}
use Rattle.story_code.proofs.fitting.description_fits.Goals as goal

pub returns : goal.returns
returns c = λ own codes. Decides-at _ _ c.text_fits.ensures (text_told c.args.counts.now own codes role.Describing (number_in c.args.strings.now) 0 (text_meant c.args.text.now))
