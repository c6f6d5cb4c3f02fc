use Rattle.std.proofs.Common.{ap, ◌∙◌, List, ℕ}
use Rattle.play_meaning.specs.Effects.{all_made}
use Rattle.play_meaning.specs.Progress.{say}
use Rattle.play_meaning.specs.Worlds.{World}
use Rattle.world_store.specs.StorySettings.{setting_of}
use Rattle.action_stages.proofs.DoneRules.{effect_is}
use Rattle.action_stages.proofs.going.StagePlaying.standard.Goals as goal

pub returns-clause-effect : goal.returns-clause-effect
returns-clause-effect g c =
    let now = c.args.self.now in
    let text = now.text.items in
    let work = now.work in
    let made = all_made (setting_of now.world.tables) c.in-Ok.answer.changes.items now.world.world in
    effect_is now.world.tables now.world.past (record { world = now.world.world; text = text; work = work })
    (record { world = c.say.new.self.world.world; text = c.say.new.self.text.items; work = c.say.new.self.work })
    c.args.now.now c.args.rule c.in-Ok.answer c.ends.result c.in-Ok.ensures
    (c.in_ok-say.ensures.said
    ∙ ap (λ (w : World). say c.as_slice.result.now (record { world = w; text = text; work = work })) c.in_ok-make_all.ensures.made
    ∙ ap (λ (bytes : List ℕ). say bytes (record { world = made; text = text; work = work })) c.as_slice.ensures)
    c.ends.ensures
