use Rattle.code_table.proofs.NoTables.{never_both}
use Rattle.code_table.proofs.laws.never_table_and_none.Goals as goal

pub returns : goal.returns
returns c = never_both
