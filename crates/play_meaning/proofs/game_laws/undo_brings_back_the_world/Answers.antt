use Rattle.play_meaning.proofs.Lines.{undo_brings_back}
use Rattle.play_meaning.proofs.game_laws.undo_brings_back_the_world.Goals as goal

pub returns : goal.returns
returns c = undo_brings_back
