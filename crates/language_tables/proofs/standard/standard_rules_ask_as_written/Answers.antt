use Rattle.language_tables.proofs.Sayings.{asked}
use Rattle.language_tables.proofs.standard.standard_rules_ask_as_written.Goals as goal

pub returns : goal.returns
returns c = asked
