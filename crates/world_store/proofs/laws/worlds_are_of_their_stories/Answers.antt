use Rattle.std.proofs.Common.{subst}
use Rattle.world_store.specs.StoryWorlds.{IsKept, StoryWorld}
use Rattle.world_store.proofs.LawLemmas.{world_of_story}
use Rattle.world_store.proofs.laws.worlds_are_of_their_stories.Goals as goal

pub returns : goal.returns
returns c =
    world_of_story c.args.world.now.tables c.args.world.now.world (subst (λ (s : StoryWorld). IsKept s.tables s.world) c.world.view_is c.world.invariant.now)
