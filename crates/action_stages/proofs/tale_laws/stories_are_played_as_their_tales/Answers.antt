use Rattle.action_stages.proofs.TaleGames.{played_alike}
use Rattle.action_stages.proofs.tale_laws.stories_are_played_as_their_tales.Goals as goal

pub returns : goal.returns
returns c = λ t said held are. played_alike t said held are
