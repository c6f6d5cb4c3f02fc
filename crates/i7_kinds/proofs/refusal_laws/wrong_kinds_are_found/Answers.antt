use Rattle.i7_kinds.proofs.WrongKinds.{wrong_found}
use Rattle.i7_kinds.proofs.refusal_laws.wrong_kinds_are_found.Goals as goal

pub returns : goal.returns
returns c = wrong_found
