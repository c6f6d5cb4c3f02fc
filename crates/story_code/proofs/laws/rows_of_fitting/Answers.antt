use Rattle.story_code.proofs.FittingShown.{rows_fit}
use Rattle.story_code.proofs.laws.rows_of_fitting.Goals as goal

pub returns : goal.returns
returns c = rows_fit
