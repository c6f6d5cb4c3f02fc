use Rattle.std.proofs.Common.{◌∙◌}
use Rattle.world_store.proofs.Views.{all_on_view}
use Rattle.world_store.proofs.world.World.on_view.Goals as goal

pub returns : goal.returns
returns c = c.in_ok-on_view_among.ensures ∙ all_on_view _ c.args.self.now c.location.result c.children-things.result c.self.view_is c.self.invariant.now c.children-things.ensures c.location.ensures
