use Rattle.i7_conditions.proofs.Counting.{counted_once}
use Rattle.i7_conditions.proofs.number.one_number_is_meant.Goals as goal

pub returns : goal.returns
returns c = counted_once
