use Rattle.i7_rules.proofs.Present.{heads_there}
use Rattle.i7_rules.proofs.laws.heads_ask_what_is.Goals as goal

pub returns : goal.returns
returns c = heads_there
