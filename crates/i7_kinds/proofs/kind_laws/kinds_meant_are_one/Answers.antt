use Rattle.i7_kinds.proofs.KindsOne.{kinds_one}
use Rattle.i7_kinds.proofs.kind_laws.kinds_meant_are_one.Goals as goal

pub returns : goal.returns
returns c = kinds_one
