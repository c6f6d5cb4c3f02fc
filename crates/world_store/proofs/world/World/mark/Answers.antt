use Rattle.std.proofs.Common.{◌∙◌, ap, length, sym}
use Rattle.world_store.specs.Pasts.{world_of}
use Rattle.world_store.specs.StoryWorlds.{StoryWorld}
use Rattle.world_store.proofs.Pasts.{past_length}
use Rattle.world_store.proofs.world.World.mark.Goals as goal

pub returns : goal.returns
returns c = c.len.ensures ∙ sym (past_length c.self.inside.log (world_of c.self.inside.state)) ∙ ap (λ (s : StoryWorld). length s.past) c.self.view_is
