use Rattle.std.proofs.Common.{[], arith, ◌∷◌, ◌++◌, ◌∙◌, ap}
use Rattle.std.specs.Prelude.{Bool, Some, if◌then◌else◌}
use Rattle.play_meaning.specs.Worlds.{set_place}
use Rattle.world_meaning.specs.declared.place.Place.{Place}
use Rattle.world_store.specs.Pasts.{world_of}
use Rattle.world_store.proofs.Logged.{place_logged}
use Rattle.world_store.proofs.Putting.{kept_there, may_inside}
use Rattle.world_store.proofs.world.World.put.Goals as goal

pub move_to-requires-clause-holders : goal.move_to-requires-clause-holders
move_to-requires-clause-holders c = λ thing holder held.
    let to : Place = record { relation = c.args.relation; holder = c.args.holder } in
    let may = may_inside _ c.args.self.now c.args.object to c.self.view_is c.if-not-may_be_put.ensures.answer in
    let kept = kept_there c.self.inside.atlas.value (world_of c.self.inside.state) c.args.object to c.self.invariant.now may in
    let there = kept.holders thing holder held in
    omega (arith, there, kept.objects, c.self.invariant.now.objects)

pub move_to-requires-clause-tree : goal.move_to-requires-clause-tree
move_to-requires-clause-tree c =
    let to : Place = record { relation = c.args.relation; holder = c.args.holder } in
    let may = may_inside _ c.args.self.now c.args.object to c.self.view_is c.if-not-may_be_put.ensures.answer in
    (kept_there c.self.inside.atlas.value (world_of c.self.inside.state) c.args.object to c.self.invariant.now may).tree

pub invariant_of-self-2 : goal.invariant_of-self-2
invariant_of-self-2 c =
    let to : Place = record { relation = c.args.relation; holder = c.args.holder } in
    let may = may_inside _ c.args.self.now c.args.object to c.self.view_is c.if-not-may_be_put.ensures.answer in
    (place_logged c.self.inside.atlas.value c.self.inside.log c.write.new.self (world_of c.self.inside.state) c.args.self.now c.self.view_is c.self.invariant
    c.args.object (Some to) c.holder-place.result c.move_to.new.self c.holder-place.ensures c.move_to.ensures c.in-Ok.ensures (kept_there c.self.inside.atlas.value (world_of c.self.inside.state) c.args.object to c.self.invariant.now may)).kept

pub returns-clause-world : goal.returns-clause-world
returns-clause-world c =
    let s = c.args.self.now in
    let to : Place = record { relation = c.args.relation; holder = c.args.holder } in
    let may = may_inside _ c.args.self.now c.args.object to c.self.view_is c.if-not-may_be_put.ensures.answer in
    (place_logged c.self.inside.atlas.value c.self.inside.log c.write.new.self (world_of c.self.inside.state) c.args.self.now c.self.view_is c.self.invariant
    c.args.object (Some to) c.holder-place.result c.move_to.new.self c.holder-place.ensures c.move_to.ensures c.in-Ok.ensures (kept_there c.self.inside.atlas.value (world_of c.self.inside.state) c.args.object to c.self.invariant.now may)).seen
    ∙ ap (λ (b : Bool). record s { world = if b then set_place c.args.object (Some to) s.world else s.world; past = s.past ++ s.world ∷ [] }) c.if-not-may_be_put.ensures.answer
