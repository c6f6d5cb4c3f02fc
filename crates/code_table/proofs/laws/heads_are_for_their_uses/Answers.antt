use Rattle.code_table.proofs.Together.{head_there}
use Rattle.code_table.proofs.laws.heads_are_for_their_uses.Goals as goal

pub returns : goal.returns
returns c = λ z heads codes judged n role table at. head_there z heads codes judged table n role at
