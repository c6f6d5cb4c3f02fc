use Rattle.i7_claims.proofs.ListScans.{list_lowest}
use Rattle.i7_claims.proofs.claim_laws.lists_twice_are_found.Goals as goal

pub returns : goal.returns
returns c = list_lowest
