use Rattle.code_table.proofs.Together.{tables_told}
use Rattle.code_table.proofs.laws.tables_are_told.Goals as goal

pub returns : goal.returns
returns c = tables_told
