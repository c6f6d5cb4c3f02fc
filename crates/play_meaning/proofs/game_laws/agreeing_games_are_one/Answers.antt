use Rattle.play_meaning.proofs.Agreement.{one_game}
use Rattle.play_meaning.proofs.game_laws.agreeing_games_are_one.Goals as goal

pub returns : goal.returns
returns c = one_game
