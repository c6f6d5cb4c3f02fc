use Rattle.i7_kinds.proofs.DescribedAgain.{again_found}
use Rattle.i7_kinds.proofs.refusal_laws.descriptions_twice_are_found.Goals as goal

pub returns : goal.returns
returns c = again_found
