use Rattle.std.proofs.Common.{◌∙◌}
use Rattle.world_store.proofs.Views.{all_held}
use Rattle.world_store.proofs.world.World.held.Goals as goal

pub returns : goal.returns
returns c = c.in_ok-held_among.ensures ∙ all_held _ c.args.self.now c.args.relation c.args.holder c.children-things.result c.self.view_is c.self.invariant.now c.children-things.ensures
