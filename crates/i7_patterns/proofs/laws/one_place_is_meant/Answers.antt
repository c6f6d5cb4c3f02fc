use Rattle.i7_patterns.proofs.Once.{one_once}
use Rattle.i7_patterns.proofs.laws.one_place_is_meant.Goals as goal

pub returns : goal.returns
returns c = one_once
