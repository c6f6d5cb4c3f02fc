use Rattle.std.proofs.Common.{refl}
use Rattle.std.proofs.lemmas.Bool.Decides.{Decides-at}
use Rattle.play_meaning.specs.Meant.{condition_meant}
use Rattle.story_code.proofs.FitsTold.{condition_told}
use Rattle.story_code.proofs.fitting.condition_fits.Goals as goal

pub returns : goal.returns
returns c = λ own codes. Decides-at _ _ c.condition_fits.ensures (condition_told c.args.counts.now own codes 0 (condition_meant c.args.condition.now) 0 64 refl)
