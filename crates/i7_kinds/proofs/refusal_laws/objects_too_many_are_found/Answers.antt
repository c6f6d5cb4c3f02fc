use Rattle.i7_kinds.proofs.LimitsShown.{one_too_many_found}
use Rattle.i7_kinds.proofs.refusal_laws.objects_too_many_are_found.Goals as goal

pub returns : goal.returns
returns c = one_too_many_found
