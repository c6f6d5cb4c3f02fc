use Rattle.i7_patterns.proofs.Present.{patterns_there}
use Rattle.i7_patterns.proofs.laws.patterns_ask_what_is.Goals as goal

pub returns : goal.returns
returns c = patterns_there
