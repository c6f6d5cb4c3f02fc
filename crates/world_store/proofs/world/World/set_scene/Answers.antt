use Rattle.world_store.specs.Pasts.{world_of}
use Rattle.world_store.proofs.Logged.{scene_logged}
use Rattle.world_store.proofs.world.World.set_scene.Goals as goal

pub invariant_of-self-2 : goal.invariant_of-self-2
invariant_of-self-2 c =
    (scene_logged c.self.inside.atlas.value c.self.inside.log c.write.new.self (world_of c.self.inside.state) c.args.self.now c.self.view_is c.self.invariant
    c.args.scene c.from-2.result c.args.now c.scene.result c.write_at.new.values.items c.from-2.ensures c.scene.ensures c.write_at.ensures c.in-Ok.ensures).kept

pub returns-clause-world : goal.returns-clause-world
returns-clause-world c =
    (scene_logged c.self.inside.atlas.value c.self.inside.log c.write.new.self (world_of c.self.inside.state) c.args.self.now c.self.view_is c.self.invariant
    c.args.scene c.from-2.result c.args.now c.scene.result c.write_at.new.values.items c.from-2.ensures c.scene.ensures c.write_at.ensures c.in-Ok.ensures).seen
