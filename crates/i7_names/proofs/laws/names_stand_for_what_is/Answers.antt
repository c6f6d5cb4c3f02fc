use Rattle.i7_names.proofs.Present.{names_there, plurals_there}
use Rattle.i7_names.proofs.laws.names_stand_for_what_is.Goals as goal

pub returns : goal.returns
returns c = record { names = names_there; plurals = plurals_there }
