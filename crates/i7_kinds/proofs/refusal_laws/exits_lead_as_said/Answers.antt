use Rattle.i7_kinds.proofs.TaleExits.{exits_as_said}
use Rattle.i7_kinds.proofs.refusal_laws.exits_lead_as_said.Goals as goal

pub returns : goal.returns
returns c = exits_as_said
