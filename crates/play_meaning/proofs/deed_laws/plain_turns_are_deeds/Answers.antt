use Rattle.play_meaning.proofs.PlainTurns.{go_turn, look_turn, opened_by_looking}
use Rattle.play_meaning.proofs.deed_laws.plain_turns_are_deeds.Goals as goal

pub returns : goal.returns
returns c = record { opening = opened_by_looking; looking = look_turn; going = go_turn }
