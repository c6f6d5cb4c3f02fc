use Rattle.world_store.proofs.LetGo.{brought_back_behind}
use Rattle.world_store.proofs.laws.what_is_let_go_of_changes_nothing.Goals as goal

pub returns : goal.returns
returns c = brought_back_behind
