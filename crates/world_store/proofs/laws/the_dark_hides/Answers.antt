use Rattle.world_store.proofs.LawLemmas.{dark_hides}
use Rattle.world_store.proofs.laws.the_dark_hides.Goals as goal

pub returns : goal.returns
returns c = dark_hides
