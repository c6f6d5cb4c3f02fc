use Rattle.code_table.proofs.Said.{condition_answered}
use Rattle.code_table.proofs.laws.conditions_are_answered.Goals as goal

pub returns : goal.returns
returns c = λ z codes string origins n condition t now w fit are at. condition_answered string z codes origins n condition t now w fit are at
