use Rattle.std.proofs.Common.{◌∙◌, ap, sym, length, List, ℕ}
use Rattle.std.specs.Prelude.{◌==◌}
use Rattle.play_meaning.specs.AllThings.{all_things}
use Rattle.world_store.specs.StorySettings.{setting_of}
use Rattle.story_player.specs.Sessions.{state_of}
use Rattle.story_player.proofs.Readings.{acts_on_all}
use Rattle.story_player.proofs.session.Session.act_on_all.Goals as goal

pub returns-clause-answer : goal.returns-clause-answer
returns-clause-answer g c =
    let session = c.args.self.now in
    let s = state_of session in
    let things = c.new-things.ensures ∙ c.in-Ok.ensures.things ∙ (λ i. all_things (setting_of (c.world.ensures.story i)) (c.world.ensures.world i) c.args.action) in
    acts_on_all session.story.value s (state_of c.act_out.new.self) c.args.action c.new-things.result c.args.text.now.said c.act_out.new.text.said c.act_out.result things
    (ap (λ (all : List ℕ). length all == 0) (sym c.as_slice.ensures) ∙ sym c.is_empty.ensures ∙ c.if-is_empty.false) c.act_out.ensures.answer c.act_out.ensures.goes_on
