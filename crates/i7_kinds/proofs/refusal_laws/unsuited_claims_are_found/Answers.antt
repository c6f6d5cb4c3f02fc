use Rattle.i7_kinds.proofs.WrongKinds.{unsuited_lowest}
use Rattle.i7_kinds.proofs.refusal_laws.unsuited_claims_are_found.Goals as goal

pub returns : goal.returns
returns c = unsuited_lowest
