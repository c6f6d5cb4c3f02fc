use Rattle.std.proofs.lemmas.Bool.Decides.{Decides-at}
use Rattle.object_words.specs.Mentions.{number_in}
use Rattle.play_meaning.specs.Meant.{body_meant}
use Rattle.story_code.proofs.FitsTold.{body_told}
use Rattle.story_code.proofs.fitting.body_fits.Goals as goal

pub returns : goal.returns
returns c = λ own codes. Decides-at _ _ c.body_fits.ensures (body_told c.args.counts.now own codes (number_in c.args.strings.now) 0 (body_meant c.args.body.now))
