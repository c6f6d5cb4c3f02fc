use Rattle.i7_kinds.proofs.LimitsShown.{roomless_refused}
use Rattle.i7_kinds.proofs.refusal_laws.roomless_sources_are_refused.Goals as goal

pub returns : goal.returns
returns c = roomless_refused
