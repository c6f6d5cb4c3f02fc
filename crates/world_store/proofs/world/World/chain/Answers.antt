use Rattle.std.proofs.Common.{ℕ, subst}
use Rattle.world_meaning.specs.Chains.{IsChain}
use Rattle.play_meaning.specs.Worlds.{chain, place_of}
use Rattle.world_store.specs.StoryWorlds.{StoryWorld}
use Rattle.world_store.proofs.Ending.{chains_end}
use Rattle.world_store.proofs.world.World.chain.Goals as goal

pub returns-clause-ends : goal.returns-clause-ends
returns-clause-ends c =
    subst (λ (s : StoryWorld). (other : ℕ) → IsChain (place_of s.world) other (chain s.world other)) c.self.view_is (chains_end _ c.chain.ensures.ends)
