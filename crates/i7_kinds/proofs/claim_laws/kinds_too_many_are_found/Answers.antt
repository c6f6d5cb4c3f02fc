use Rattle.i7_kinds.proofs.KindScans.{kind_count_lowest}
use Rattle.i7_kinds.proofs.claim_laws.kinds_too_many_are_found.Goals as goal

pub returns : goal.returns
returns c = kind_count_lowest
