use Rattle.world_store.specs.Pasts.{world_of}
use Rattle.world_store.proofs.Logged.{ending_logged}
use Rattle.world_store.proofs.world.World.end_story.Goals as goal

pub invariant_of-self : goal.invariant_of-self
invariant_of-self c =
    (ending_logged c.self.inside.atlas.value c.self.inside.log c.write.new.self (world_of c.self.inside.state) c.args.self.now c.self.view_is c.self.invariant
    c.args.text c.replace-ended.result c.replace-ended.new.self c.replace-ended.ensures.value c.replace-ended.ensures.after c.in-Ok.ensures).kept

pub returns-in-Ok-clause-world : goal.returns-in-Ok-clause-world
returns-in-Ok-clause-world c =
    (ending_logged c.self.inside.atlas.value c.self.inside.log c.write.new.self (world_of c.self.inside.state) c.args.self.now c.self.view_is c.self.invariant
    c.args.text c.replace-ended.result c.replace-ended.new.self c.replace-ended.ensures.value c.replace-ended.ensures.after c.in-Ok.ensures).seen
