use Rattle.story_player.specs.Sessions.{game_of, state_of}
use Rattle.world_store.specs.StoryPlay.{game_in_play}
use Rattle.story_player.specs.Watches.{watched_inner}
use Rattle.source_player.proofs.Plays.{broke_game}
use Rattle.source_player.proofs.source_run.run_story.Goals as goal

pub returns-clause-left : goal.returns-clause-left
returns-clause-left g c =
    let unread = g.R.Read.remaining (watched_inner c.args.reader.now) in
    let rest = g.R.Read.remaining (watched_inner c.run.new.reader) in
    let held = g.W.Write.contents (watched_inner c.args.writer.now) in
    let now = g.W.Write.contents (watched_inner c.run.new.writer) in
    let session = c.in-Ok-start.session in (
      c.in-Ok-start.ensures.whole,
      record {
        story = c.in-Ok.story;
        spells = c.in-Ok.ensures.found;
        broke = broke_game c.in-Err-run.fault (game_of session) (game_in_play c.in-Ok.story) c.args.echo unread rest held now (state_of session) (state_of c.run.new.session) c.in-Ok-start.ensures.game c.in-Ok-start.ensures.begun c.in-Err-run.ensures.cut;
      },
    )
