use Rattle.code_table.proofs.Spoken.{origins_table}
use Rattle.code_table.proofs.laws.origins_are_tables.Goals as goal

pub returns : goal.returns
returns c = origins_table
