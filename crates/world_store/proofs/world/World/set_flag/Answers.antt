use Rattle.std.proofs.Common.{[], ◌∷◌, ◌++◌, ◌∙◌, ap}
use Rattle.std.specs.Prelude.{Bool, if◌then◌else◌}
use Rattle.play_meaning.specs.Worlds.{set_flag}
use Rattle.world_store.specs.Pasts.{world_of}
use Rattle.world_store.proofs.Logged.{flag_logged}
use Rattle.world_store.proofs.world.World.set_flag.Goals as goal

pub invariant_of-self-2 : goal.invariant_of-self-2
invariant_of-self-2 c =
    (flag_logged c.self.inside.atlas.value c.self.inside.log c.write.new.self (world_of c.self.inside.state) c.args.self.now c.self.view_is c.self.invariant
    c.args.property c.args.object c.args.value c.flag.result c.set.new.self c.flag.ensures c.set.ensures c.in-Ok.ensures).kept

pub returns-clause-world : goal.returns-clause-world
returns-clause-world c =
    let s = c.args.self.now in
    (flag_logged c.self.inside.atlas.value c.self.inside.log c.write.new.self (world_of c.self.inside.state) s c.self.view_is c.self.invariant
    c.args.property c.args.object c.args.value c.flag.result c.set.new.self c.flag.ensures c.set.ensures c.in-Ok.ensures).seen
    ∙ ap (λ (b : Bool). record s { world = if b then set_flag c.args.property c.args.object c.args.value s.world else s.world; past = s.past ++ s.world ∷ [] }) c.if-not-has_flag.ensures
