use Rattle.std.proofs.Common.{[], of_z, to_z, w32, ◌∷◌, ◌++◌, ◌∙◌, ap}
use mir.ValLaws.{to_z-of_z}
use Rattle.std.specs.Prelude.{Bool, if◌then◌else◌}
use Rattle.play_meaning.specs.Worlds.{set_number}
use Rattle.world_store.specs.Pasts.{world_of}
use Rattle.world_store.proofs.Logged.{number_logged}
use Rattle.world_store.proofs.world.World.set_number.Goals as goal

pub invariant_of-self-2 : goal.invariant_of-self-2
invariant_of-self-2 c =
    (number_logged c.self.inside.atlas.value c.self.inside.log c.write.new.self (world_of c.self.inside.state) c.args.self.now c.self.view_is c.self.invariant
    c.args.property c.args.object c.args.value (to_z w32 (of_z w32 c.args.value)) (to_z w32 (of_z w32 c.number.result)) c.set.new.self (to_z-of_z w32 c.args.value c.ranges.value) (to_z-of_z w32 c.number.result (record { sfits = c.number.type_inv }) ∙ c.number.ensures) c.set.ensures c.in-Ok.ensures).kept

pub returns-clause-world : goal.returns-clause-world
returns-clause-world c =
    let s = c.args.self.now in
    (number_logged c.self.inside.atlas.value c.self.inside.log c.write.new.self (world_of c.self.inside.state) s c.self.view_is c.self.invariant
    c.args.property c.args.object c.args.value (to_z w32 (of_z w32 c.args.value)) (to_z w32 (of_z w32 c.number.result)) c.set.new.self (to_z-of_z w32 c.args.value c.ranges.value) (to_z-of_z w32 c.number.result (record { sfits = c.number.type_inv }) ∙ c.number.ensures) c.set.ensures c.in-Ok.ensures).seen
    ∙ ap (λ (b : Bool). record s { world = if b then set_number c.args.property c.args.object c.args.value s.world else s.world; past = s.past ++ s.world ∷ [] }) c.if-not-has_number.ensures
