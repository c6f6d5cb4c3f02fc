use Rattle.std.proofs.Common.{◌∙◌, of_z, to_z, w32}
use mir.ValLaws.{to_z-of_z}
use Rattle.world_store.specs.Pasts.{world_of}
use Rattle.world_store.proofs.Logged.{variable_logged}
use Rattle.world_store.proofs.world.World.set_variable.Goals as goal

pub invariant_of-self-2 : goal.invariant_of-self-2
invariant_of-self-2 c =
    (variable_logged c.self.inside.atlas.value c.self.inside.log c.write.new.self (world_of c.self.inside.state) c.args.self.now c.self.view_is c.self.invariant
    c.args.variable c.from-2.result c.args.value (to_z w32 (of_z w32 c.args.value)) (to_z w32 (of_z w32 c.variable.result)) c.write_at.new.values.items c.from-2.ensures (to_z-of_z w32 c.args.value c.ranges.value) (to_z-of_z w32 c.variable.result (record { sfits = c.variable.type_inv }) ∙ c.variable.ensures) c.write_at.ensures c.in-Ok.ensures).kept

pub returns-clause-world : goal.returns-clause-world
returns-clause-world c =
    (variable_logged c.self.inside.atlas.value c.self.inside.log c.write.new.self (world_of c.self.inside.state) c.args.self.now c.self.view_is c.self.invariant
    c.args.variable c.from-2.result c.args.value (to_z w32 (of_z w32 c.args.value)) (to_z w32 (of_z w32 c.variable.result)) c.write_at.new.values.items c.from-2.ensures (to_z-of_z w32 c.args.value c.ranges.value) (to_z-of_z w32 c.variable.result (record { sfits = c.variable.type_inv }) ∙ c.variable.ensures) c.write_at.ensures c.in-Ok.ensures).seen
