use Rattle.i7_kinds.proofs.LedElsewhere.{elsewhere_found}
use Rattle.i7_kinds.proofs.refusal_laws.exits_elsewhere_are_found.Goals as goal

pub returns : goal.returns
returns c = elsewhere_found
