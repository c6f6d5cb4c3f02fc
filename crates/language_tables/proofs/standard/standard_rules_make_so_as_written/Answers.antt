use Rattle.language_tables.proofs.Sayings.{made_so}
use Rattle.language_tables.proofs.standard.standard_rules_make_so_as_written.Goals as goal

pub returns : goal.returns
returns c = made_so
