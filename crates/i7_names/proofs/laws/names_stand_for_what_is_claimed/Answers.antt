use Rattle.i7_names.proofs.Claimed.{source_is_as_claimed}
use Rattle.i7_names.proofs.laws.names_stand_for_what_is_claimed.Goals as goal

pub returns : goal.returns
returns c = source_is_as_claimed
