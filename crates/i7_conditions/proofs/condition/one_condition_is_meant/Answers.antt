use Rattle.i7_conditions.proofs.Once.{condition_once}
use Rattle.i7_conditions.proofs.condition.one_condition_is_meant.Goals as goal

pub returns : goal.returns
returns c = condition_once
