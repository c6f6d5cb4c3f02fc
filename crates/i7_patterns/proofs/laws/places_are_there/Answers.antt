use Rattle.i7_patterns.proofs.Present.{one_there}
use Rattle.i7_patterns.proofs.laws.places_are_there.Goals as goal

pub returns : goal.returns
returns c = one_there
