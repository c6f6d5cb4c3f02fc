use Rattle.world_store.specs.Pasts.{world_of}
use Rattle.world_store.proofs.Logged.{turn_logged}
use Rattle.world_store.proofs.world.World.next_turn.Goals as goal

pub invariant_of-self-2 : goal.invariant_of-self-2
invariant_of-self-2 c =
    (turn_logged c.self.inside.atlas.value c.self.inside.log c.write.new.self (world_of c.self.inside.state) c.args.self.now c.self.view_is c.self.invariant
    c.in-Ok.ensures c.requires).kept

pub returns : goal.returns
returns c =
    (turn_logged c.self.inside.atlas.value c.self.inside.log c.write.new.self (world_of c.self.inside.state) c.args.self.now c.self.view_is c.self.invariant
    c.in-Ok.ensures c.requires).seen
