use Rattle.i7_patterns.proofs.Once.{pattern_once}
use Rattle.i7_patterns.proofs.laws.one_pattern_is_meant.Goals as goal

pub returns : goal.returns
returns c = pattern_once
