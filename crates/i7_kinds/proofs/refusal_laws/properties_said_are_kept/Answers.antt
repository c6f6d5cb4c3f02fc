use Rattle.i7_kinds.proofs.PropertiesKept.{properties_kept}
use Rattle.i7_kinds.proofs.refusal_laws.properties_said_are_kept.Goals as goal

pub returns : goal.returns
returns c = properties_kept
