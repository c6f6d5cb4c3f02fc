use Rattle.std.proofs.Common.{[], ◌∷◌, ◌++◌, ◌∙◌, ap, sym}
use Rattle.std.specs.Prelude.{Bool, if◌then◌else◌}
use Rattle.std.proofs.lemmas.Bool.{and_parts}
use Rattle.play_meaning.specs.Worlds.{set_value}
use Rattle.world_store.specs.Pasts.{world_of}
use Rattle.world_store.proofs.Logged.{value_logged}
use Rattle.world_store.proofs.world.World.set_value.Goals as goal

pub invariant_of-self-2 : goal.invariant_of-self-2
invariant_of-self-2 c =
    (value_logged c.self.inside.atlas.value c.self.inside.log c.write.new.self (world_of c.self.inside.state) c.args.self.now c.self.view_is c.self.invariant
    c.args.kind c.args.object c.args.value c.value_number.result c.set.new.self (and_parts _ _ (sym c.if-not-may_have.ensures)).1 c.value_number.ensures c.set.ensures c.in-Ok.ensures).kept

pub returns-clause-world : goal.returns-clause-world
returns-clause-world c =
    let s = c.args.self.now in
    (value_logged c.self.inside.atlas.value c.self.inside.log c.write.new.self (world_of c.self.inside.state) s c.self.view_is c.self.invariant
    c.args.kind c.args.object c.args.value c.value_number.result c.set.new.self (and_parts _ _ (sym c.if-not-may_have.ensures)).1 c.value_number.ensures c.set.ensures c.in-Ok.ensures).seen
    ∙ ap (λ (b : Bool). record s { world = if b then set_value c.args.kind c.args.object c.args.value s.world else s.world; past = s.past ++ s.world ∷ [] }) c.if-not-may_have.ensures
