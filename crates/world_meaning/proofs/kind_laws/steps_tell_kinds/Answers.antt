use Rattle.world_meaning.proofs.Climbs.{climbs_decide}
use Rattle.world_meaning.proofs.kind_laws.steps_tell_kinds.Goals as goal

pub returns : goal.returns
returns c = climbs_decide
