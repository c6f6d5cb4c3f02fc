use Rattle.i7_kinds.proofs.LimitsShown.{long_name_found}
use Rattle.i7_kinds.proofs.refusal_laws.long_names_are_found.Goals as goal

pub returns : goal.returns
returns c = long_name_found
