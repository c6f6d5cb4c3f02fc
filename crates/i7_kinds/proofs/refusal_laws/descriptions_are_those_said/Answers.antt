use Rattle.i7_kinds.proofs.DescriptionsSaid.{said_so}
use Rattle.i7_kinds.proofs.refusal_laws.descriptions_are_those_said.Goals as goal

pub returns : goal.returns
returns c = said_so
