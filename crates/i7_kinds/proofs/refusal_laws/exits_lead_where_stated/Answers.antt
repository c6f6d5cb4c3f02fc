use Rattle.i7_kinds.proofs.ExitsShown.{way_out}
use Rattle.i7_kinds.proofs.refusal_laws.exits_lead_where_stated.Goals as goal

pub returns : goal.returns
returns c = way_out
