use Rattle.i7_kinds.proofs.PlaceScans.{holder_cycle_lowest}
use Rattle.i7_kinds.proofs.claim_laws.holder_cycles_are_found.Goals as goal

pub returns : goal.returns
returns c = holder_cycle_lowest
