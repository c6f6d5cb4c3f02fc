use Rattle.i7_phrases.proofs.Open.{open_around}
use Rattle.i7_phrases.proofs.around.open_repeats_stand_around.Goals as goal

pub returns : goal.returns
returns c = open_around
