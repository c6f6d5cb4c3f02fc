use Rattle.std.proofs.Common.{subst}
use Rattle.world_store.specs.StoryWorlds.{AreKept, StoryWorld, worlds}
use Rattle.world_store.proofs.Pasts.{kept_more}
use Rattle.world_store.proofs.laws.worlds_are_whole.Goals as goal

pub returns : goal.returns
returns c =
    let is = c.world.invariant in
    subst (λ (s : StoryWorld). AreKept s.tables (worlds s)) c.world.view_is (kept_more _ _ _ is.before is.now)
