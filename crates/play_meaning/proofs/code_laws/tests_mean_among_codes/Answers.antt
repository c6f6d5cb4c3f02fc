use Rattle.play_meaning.proofs.Translated.{test_among}
use Rattle.play_meaning.proofs.code_laws.tests_mean_among_codes.Goals as goal

pub returns : goal.returns
returns c = test_among
