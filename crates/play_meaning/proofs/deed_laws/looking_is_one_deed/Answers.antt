use Rattle.play_meaning.proofs.PlainTurns.{look_performed}
use Rattle.play_meaning.proofs.deed_laws.looking_is_one_deed.Goals as goal

pub returns : goal.returns
returns c = look_performed
