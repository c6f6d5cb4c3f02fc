use Rattle.i7_kinds.proofs.LimitsShown.{long_text_found}
use Rattle.i7_kinds.proofs.refusal_laws.long_descriptions_are_found.Goals as goal

pub returns : goal.returns
returns c = long_text_found
