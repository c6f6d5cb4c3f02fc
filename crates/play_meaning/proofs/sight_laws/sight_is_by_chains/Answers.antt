use Rattle.play_meaning.proofs.Seen.{encloses_is, light_is, touchable_is, visible_is}
use Rattle.play_meaning.proofs.sight_laws.sight_is_by_chains.Goals as goal

pub returns : goal.returns
returns c = record { light = light_is; seen = visible_is; touched = touchable_is; enclosed = encloses_is }
