use Rattle.i7_claims.proofs.SortScans.{lists_lowest}
use Rattle.i7_claims.proofs.claim_laws.long_lists_are_found.Goals as goal

pub returns : goal.returns
returns c = lists_lowest
