use Rattle.i7_kinds.proofs.LongNames.{longer_lowest}
use Rattle.i7_kinds.proofs.claim_laws.longer_names_are_found.Goals as goal

pub returns : goal.returns
returns c = longer_lowest
