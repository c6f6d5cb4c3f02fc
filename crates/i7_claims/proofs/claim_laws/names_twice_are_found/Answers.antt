use Rattle.i7_claims.proofs.NameScans.{name_lowest}
use Rattle.i7_claims.proofs.claim_laws.names_twice_are_found.Goals as goal

pub returns : goal.returns
returns c = name_lowest
