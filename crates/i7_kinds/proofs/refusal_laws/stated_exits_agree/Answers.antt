use Rattle.i7_kinds.proofs.ExitsShown.{stated_agree}
use Rattle.i7_kinds.proofs.refusal_laws.stated_exits_agree.Goals as goal

pub returns : goal.returns
returns c = stated_agree
