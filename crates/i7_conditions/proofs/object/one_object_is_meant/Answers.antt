use Rattle.i7_conditions.proofs.Readings.{meant_once}
use Rattle.i7_conditions.proofs.object.one_object_is_meant.Goals as goal

pub returns : goal.returns
returns c = meant_once
