use Rattle.play_meaning.proofs.Translated.{body_means}
use Rattle.play_meaning.proofs.code_laws.bodies_run_as_they_mean.Goals as goal

pub returns : goal.returns
returns c = body_means
