use Rattle.i7_kinds.proofs.ValueScans.{contrary_lowest}
use Rattle.i7_kinds.proofs.claim_laws.values_twice_are_found.Goals as goal

pub returns : goal.returns
returns c = contrary_lowest
