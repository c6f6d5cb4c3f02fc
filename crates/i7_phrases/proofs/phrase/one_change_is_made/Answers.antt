use Rattle.i7_phrases.proofs.Once.{change_once}
use Rattle.i7_phrases.proofs.phrase.one_change_is_made.Goals as goal

pub returns : goal.returns
returns c = change_once
