use Rattle.std.proofs.Common.{◌∙◌, ap, subst, sym}
use Rattle.command_parser.specs.Readings.{told as told_of}
use Rattle.play_meaning.specs.Games.{Reading}
use Rattle.play_meaning.specs.Sessions.{meant, meant_among}
use Rattle.story_format.specs.declared.tables.Tables.{Tables}
use Rattle.world_store.specs.StoryGrammars.{grammar_of}
use Rattle.world_store.specs.StoryPlay.{game_in_play}
use Rattle.world_store.specs.StorySettings.{setting_of}
use Rattle.story_player.specs.Given.{IsGiven}
use Rattle.story_player.specs.Meant.{read_in}
use Rattle.story_player.specs.Sessions.{game_of, state_of}
use Rattle.story_player.proofs.Readings.{meant_so, not_asked}
use Rattle.story_player.proofs.session.Session.command.Goals as goal

pub returns-in-Ok-clause-answer : goal.returns-in-Ok-clause-answer
returns-in-Ok-clause-answer g c =
    let session = c.args.self.now in
    let s = state_of session in
    let here = c.world.result.now in
    let words = c.args.command.now in
    let story = c.world.ensures.story in
    subst (λ (r : Reading). IsGiven (game_of session) r s (state_of c.answer.new.self) c.args.text.now.said c.answer.new.text.said c.answer.result)
    (ap (λ (t : Tables). meant_among (setting_of t) s.world (told_of (grammar_of t) c.in-Ok.reading)) (sym story) ∙ ap (meant_among (setting_of here.tables) s.world) c.in-Ok.ensures.read
    ∙ meant_so here s _ words c.as_ref.ensures.value c.world.ensures.world ∙ ap (λ (t : Tables). meant (game_in_play t) s words) story)
    c.answer.ensures.answer

pub returns-in-Err-clause-answer : goal.returns-in-Err-clause-answer
returns-in-Err-clause-answer g c =
    let session = c.args.self.now in
    let s = state_of session in
    let here = c.world.result.now in
    let words = c.args.command.now in
    let story = c.world.ensures.story in
    subst (λ (r : Reading). IsGiven (game_of session) r s (state_of c.abandon.new.self) c.args.text.now.said c.abandon.new.text.said c.abandon.result)
    (meant_so here s _ words c.as_ref.ensures.value c.world.ensures.world ∙ ap (λ (t : Tables). meant (game_in_play t) s words) story)
    (not_asked (game_of session) (setting_of here.tables) s.world s (state_of c.abandon.new.self) (read_in here _ words) c.args.text.now.said c.abandon.new.text.said c.abandon.result
    c.in-Err.ensures.asks c.abandon.ensures.answer c.abandon.ensures.goes_on)
