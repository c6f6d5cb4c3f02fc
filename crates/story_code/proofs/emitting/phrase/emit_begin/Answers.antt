use Rattle.std.proofs.Common.{sym, ◌∙◌}
use Rattle.story_code.proofs.Aimed.{few_open}
use Rattle.story_code.proofs.emitting.phrase.emit_begin.Goals as goal

pub returns-clause-few : goal.returns-clause-few
returns-clause-few c = λ held. few_open _ _ _ c.in_ok-push.ensures (sym held ∙ c.fits.ensures.kept)
