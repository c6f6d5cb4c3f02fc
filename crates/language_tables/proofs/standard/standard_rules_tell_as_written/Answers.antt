use Rattle.language_tables.proofs.Sayings.{said}
use Rattle.language_tables.proofs.standard.standard_rules_tell_as_written.Goals as goal

pub returns : goal.returns
returns c = said
