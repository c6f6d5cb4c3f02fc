use Rattle.world_store.specs.Pasts.{world_of}
use Rattle.world_store.proofs.Pasts.{kept_in}
use Rattle.world_store.proofs.world.World.bind.Goals as goal

pub invariant_of-self : goal.invariant_of-self
invariant_of-self c =
    kept_in c.self.inside.atlas.value c.bound.inside.atlas.value c.args.bound (world_of c.self.inside.state) c.self.inside.log c.args.self.now c.self.view_is c.bound.view_is c.requires.kept
