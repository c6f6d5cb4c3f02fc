use Rattle.i7_kinds.proofs.KindsStand.{kinds_lie}
use Rattle.i7_kinds.proofs.kind_laws.kinds_lie_as_claimed.Goals as goal

pub returns : goal.returns
returns c = kinds_lie
