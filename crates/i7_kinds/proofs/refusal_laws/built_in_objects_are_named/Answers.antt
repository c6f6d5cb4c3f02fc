use Rattle.i7_kinds.proofs.OffPath.{built_in_named}
use Rattle.i7_kinds.proofs.refusal_laws.built_in_objects_are_named.Goals as goal

pub returns : goal.returns
returns c = built_in_named
