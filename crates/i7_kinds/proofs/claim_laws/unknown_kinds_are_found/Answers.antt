use Rattle.i7_kinds.proofs.KindScans.{unknown_lowest}
use Rattle.i7_kinds.proofs.claim_laws.unknown_kinds_are_found.Goals as goal

pub returns : goal.returns
returns c = unknown_lowest
