use Rattle.play_meaning.proofs.Translated.{test_means}
use Rattle.play_meaning.proofs.code_laws.tests_mean_their_conditions.Goals as goal

pub returns : goal.returns
returns c = test_means
