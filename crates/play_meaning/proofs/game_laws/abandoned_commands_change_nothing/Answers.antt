use Rattle.play_meaning.proofs.Lines.{command_leaves}
use Rattle.play_meaning.proofs.game_laws.abandoned_commands_change_nothing.Goals as goal

pub returns : goal.returns
returns c = command_leaves
