use Rattle.world_store.proofs.TaleGames.{tables_game}
use Rattle.world_store.proofs.laws.tables_give_their_tales_game.Goals as goal

pub returns : goal.returns
returns c = tables_game
