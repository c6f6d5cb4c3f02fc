use Rattle.i7_kinds.proofs.KindsOne.{kinds_meant}
use Rattle.i7_kinds.proofs.kind_laws.kinds_are_the_deepest_demanded.Goals as goal

pub returns : goal.returns
returns c = kinds_meant
