use Rattle.i7_kinds.proofs.Judged.{one_refusal}
use Rattle.i7_kinds.proofs.refusal_laws.one_fault_is_refused.Goals as goal

pub returns : goal.returns
returns c = one_refusal
