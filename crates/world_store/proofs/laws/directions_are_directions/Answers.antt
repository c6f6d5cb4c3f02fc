use Rattle.std.proofs.Common.{subst}
use Rattle.story_format.specs.Spells.{IsStory}
use Rattle.world_store.specs.StoryWorlds.{StoryWorld}
use Rattle.world_store.proofs.Directing.{directions_are}
use Rattle.world_store.proofs.laws.directions_are_directions.Goals as goal

pub returns : goal.returns
returns c o = directions_are c.args.world.now.tables o (subst (λ (s : StoryWorld). IsStory s.tables) c.world.view_is c.world.invariant.now.story)
