use Rattle.play_meaning.proofs.PlainTurns.{go_performed}
use Rattle.play_meaning.proofs.deed_laws.going_is_one_deed.Goals as goal

pub returns : goal.returns
returns c = go_performed
