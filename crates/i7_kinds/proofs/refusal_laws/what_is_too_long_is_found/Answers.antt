use Rattle.i7_kinds.proofs.Judged.{long_found}
use Rattle.i7_kinds.proofs.refusal_laws.what_is_too_long_is_found.Goals as goal

pub returns : goal.returns
returns c = long_found
