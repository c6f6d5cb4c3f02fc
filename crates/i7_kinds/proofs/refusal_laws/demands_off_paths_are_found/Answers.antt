use Rattle.i7_kinds.proofs.OffPath.{off_lowest}
use Rattle.i7_kinds.proofs.refusal_laws.demands_off_paths_are_found.Goals as goal

pub returns : goal.returns
returns c = off_lowest
