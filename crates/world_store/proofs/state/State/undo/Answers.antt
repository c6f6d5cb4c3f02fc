use Rattle.std.proofs.Common.{◌≡◌, ℕ, ◌<◌, length, subst}
use Rattle.std.specs.Prelude.{Some}
use Rattle.object_tree.specs.Places.{holder_of}
use Rattle.play_meaning.specs.Worlds.{place_of}
use Rattle.world_meaning.specs.Chains.{IsTree}
use Rattle.world_store.specs.Pasts.{undone, world_of}
use Rattle.world_store.specs.declared.remembering.Was.{Was}
use Rattle.world_store.proofs.state.State.undo.Goals as goal

pub move_to-requires-clause-holders : goal.move_to-requires-clause-holders
move_to-requires-clause-holders c =
    let w = world_of c.args.self.now in
    subst (λ (was : Was). (thing holder : ℕ) → holder_of (undone was w).places thing ≡ Some holder → holder < length w.places) c.in-Placed.is c.requires.holders

pub move_to-requires-clause-tree : goal.move_to-requires-clause-tree
move_to-requires-clause-tree c = subst (λ (was : Was). IsTree (place_of (undone was (world_of c.args.self.now)))) c.in-Placed.is c.requires.tree
