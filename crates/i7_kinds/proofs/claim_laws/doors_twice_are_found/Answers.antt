use Rattle.i7_kinds.proofs.DoorScans.{again_lowest}
use Rattle.i7_kinds.proofs.claim_laws.doors_twice_are_found.Goals as goal

pub returns : goal.returns
returns c = again_lowest
