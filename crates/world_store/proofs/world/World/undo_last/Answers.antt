use Rattle.std.proofs.Common.{◌∙◌, ap, arith, refl, sym}
use Rattle.world_store.specs.Pasts.{undone, world_of}
use Rattle.world_store.specs.StoryWorlds.{StoryWorld}
use Rattle.world_store.proofs.Pasts.{kept_back, past_but_last}
use Rattle.world_store.proofs.world.World.undo_last.Goals as goal

pub undo-requires-clause-holders : goal.undo-requires-clause-holders
undo-requires-clause-holders c = λ thing holder held.
    let w = world_of c.self.inside.state in
    let was = c.in-Some.was in
    let back = kept_back c.self.inside.atlas.value c.self.inside.log c.take_last.new.self was w (undone was w) c.in-Some.ensures refl c.self.invariant in
    let there = back.now.holders thing holder held in
    omega (arith, there, back.now.objects, c.self.invariant.now.objects)

pub undo-requires-clause-tree : goal.undo-requires-clause-tree
undo-requires-clause-tree c =
    let w = world_of c.self.inside.state in
    let was = c.in-Some.was in
    (kept_back c.self.inside.atlas.value c.self.inside.log c.take_last.new.self was w (undone was w) c.in-Some.ensures refl c.self.invariant).now.tree

pub invariant_of-self : goal.invariant_of-self
invariant_of-self c =
    kept_back c.self.inside.atlas.value c.self.inside.log c.take_last.new.self c.in-Some.was (world_of c.self.inside.state) (world_of c.undo.new.self) c.in-Some.ensures c.undo.ensures
    c.self.invariant

pub returns-in-Some-clause-past : goal.returns-in-Some-clause-past
returns-in-Some-clause-past c =
    ap (λ (s : StoryWorld). s.past) (sym c.self.view_is)
    ∙ past_but_last c.self.inside.log c.take_last.new.self c.in-Some.was (world_of c.self.inside.state) (world_of c.undo.new.self) c.in-Some.ensures c.undo.ensures
