use Rattle.code_table.proofs.Together.{sound_together}
use Rattle.code_table.proofs.laws.tables_are_sound_together.Goals as goal

pub returns : goal.returns
returns c = λ z heads codes judged few table. sound_together z heads codes judged table few
