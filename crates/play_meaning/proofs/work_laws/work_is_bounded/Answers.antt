use Rattle.play_meaning.proofs.Work.{actions_bounded, openings_bounded, turns_bounded, turns_upon_bounded}
use Rattle.play_meaning.proofs.work_laws.work_is_bounded.Goals as goal

pub returns : goal.returns
returns c = record { actions = actions_bounded; turns = turns_bounded; all = turns_upon_bounded; openings = openings_bounded }
