use Rattle.std.proofs.Common.{◌≡◌, ◌∙◌, ap, arith, length, sym}
use Rattle.world_store.specs.Pasts.{world_of}
use Rattle.world_store.specs.StoryWorlds.{StoryWorld, let_go}
use Rattle.world_store.proofs.LetGo.{kept_let_go, seen_let_go}
use Rattle.world_store.proofs.Pasts.{past_length}
use Rattle.world_store.proofs.world.World.let_go.Goals as goal

pub drop_front-requires : goal.drop_front-requires
drop_front-requires c =
    let many : length c.self.inside.log ≡ length c.args.self.now.past =
    sym (past_length c.self.inside.log (world_of c.self.inside.state)) ∙ ap (λ (s : StoryWorld). length s.past) c.self.view_is in
    omega (arith, many, c.requires, c.mark.view_is)

pub invariant_of-self : goal.invariant_of-self
invariant_of-self c =
    kept_let_go c.self.inside.atlas.value (world_of c.self.inside.state) c.mark.inside.0 c.self.inside.log c.drop_front.new.self c.drop_front.ensures c.self.invariant

pub returns : goal.returns
returns c =
    seen_let_go c.self.inside.atlas.value (world_of c.self.inside.state) c.mark.inside.0 c.self.inside.log c.drop_front.new.self c.args.self.now c.self.view_is c.drop_front.ensures
    ∙ ap (λ n. let_go n c.args.self.now) c.mark.view_is
