use Rattle.std.proofs.Common.{[], ◌∷◌, ◌++◌, ◌≢◌, ◌∙◌, ap, sym}
use Rattle.std.specs.Prelude.{Bool, None, if◌then◌else◌}
use Rattle.play_meaning.specs.Settings.{kinds_of}
use Rattle.play_meaning.specs.Worlds.{set_place}
use Rattle.world_store.specs.Pasts.{world_of}
use Rattle.world_store.specs.StorySettings.{setting_of}
use Rattle.world_store.proofs.Logged.{place_logged}
use Rattle.world_store.proofs.Putting.{held_inside, kept_without, taken_so}
use Rattle.world_store.proofs.world.World.take_out.Goals as goal

pub invariant_of-self-2 : goal.invariant_of-self-2
invariant_of-self-2 c =
    let held = held_inside _ c.args.self.now c.args.object c.self.view_is c.if-not-can_be_held.ensures in
    let away : 0 ≢ c.args.object = λ e. c.if-get-eq0.false (c.get.ensures ∙ sym e) in
    (place_logged c.self.inside.atlas.value c.self.inside.log c.write.new.self (world_of c.self.inside.state) c.args.self.now c.self.view_is c.self.invariant
    c.args.object None c.holder-place.result c.take_out.new.self c.holder-place.ensures c.take_out.ensures c.in-Ok.ensures
    (kept_without c.self.inside.atlas.value (world_of c.self.inside.state) c.args.object c.self.invariant.now held away)).kept

pub returns-clause-world : goal.returns-clause-world
returns-clause-world c =
    let s = c.args.self.now in
    let held = held_inside _ c.args.self.now c.args.object c.self.view_is c.if-not-can_be_held.ensures in
    let away : 0 ≢ c.args.object = λ e. c.if-get-eq0.false (c.get.ensures ∙ sym e) in
    (place_logged c.self.inside.atlas.value c.self.inside.log c.write.new.self (world_of c.self.inside.state) c.args.self.now c.self.view_is c.self.invariant
    c.args.object None c.holder-place.result c.take_out.new.self c.holder-place.ensures c.take_out.ensures c.in-Ok.ensures
    (kept_without c.self.inside.atlas.value (world_of c.self.inside.state) c.args.object c.self.invariant.now held away)).seen
    ∙ ap (λ (b : Bool). record s { world = if b then set_place c.args.object None s.world else s.world; past = s.past ++ s.world ∷ [] })
    (taken_so (kinds_of (setting_of s.tables)) c.args.object c.if-not-can_be_held.ensures away)
