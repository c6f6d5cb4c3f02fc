use Rattle.code_table.proofs.Together.{one_table}
use Rattle.code_table.proofs.laws.one_table.Goals as goal

pub returns : goal.returns
returns c = one_table
