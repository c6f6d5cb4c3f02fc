use Rattle.i7_kinds.proofs.DoorScans.{doors_decide}
use Rattle.i7_kinds.proofs.claim_laws.doors_are_those_demanded.Goals as goal

pub returns : goal.returns
returns c = doors_decide
