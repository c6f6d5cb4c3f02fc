use Rattle.i7_claims.proofs.SortScans.{too_many_lowest}
use Rattle.i7_claims.proofs.claim_laws.names_too_many_are_found.Goals as goal

pub returns : goal.returns
returns c = too_many_lowest
