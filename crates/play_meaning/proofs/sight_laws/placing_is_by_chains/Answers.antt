use Rattle.play_meaning.proofs.Placings.{placed_is}
use Rattle.play_meaning.proofs.sight_laws.placing_is_by_chains.Goals as goal

pub returns : goal.returns
returns c = placed_is
