use Rattle.world_store.proofs.Reverted.{brought_back, changes_brought_back}
use Rattle.world_store.proofs.laws.marks_bring_back_the_world.Goals as goal

pub returns : goal.returns
returns c = record { added = brought_back; asked = changes_brought_back }
