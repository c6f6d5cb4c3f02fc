use Rattle.i7_kinds.proofs.KindScans.{cycle_lowest}
use Rattle.i7_kinds.proofs.claim_laws.cycles_are_found.Goals as goal

pub returns : goal.returns
returns c = cycle_lowest
