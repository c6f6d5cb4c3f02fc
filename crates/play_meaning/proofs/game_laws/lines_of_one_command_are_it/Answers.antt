use Rattle.play_meaning.proofs.Lines.{alone}
use Rattle.play_meaning.proofs.game_laws.lines_of_one_command_are_it.Goals as goal

pub returns : goal.returns
returns c = alone
