use Rattle.i7_actions.proofs.Once.{try_once}
use Rattle.i7_actions.proofs.tried.one_action_is_tried.Goals as goal

pub returns : goal.returns
returns c = try_once
