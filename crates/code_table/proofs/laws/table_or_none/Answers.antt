use Rattle.code_table.proofs.Decided.{table_or_none}
use Rattle.code_table.proofs.laws.table_or_none.Goals as goal

pub returns : goal.returns
returns c = table_or_none
