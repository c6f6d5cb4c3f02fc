use Rattle.std.proofs.Common.{true, false, [], Ok, refl, ap, subst, sym, ◌∙◌}
use Rattle.std.specs.Prelude.{is_none}
use Rattle.std.specs.Io.KnownBytes.{Appends}
use Rattle.std.proofs.lemmas.Result.{err_from_is_err_and}
use Rattle.play_meaning.specs.Sessions.{opened}
use Rattle.story_player.specs.Runs.{BrokeOff, streams_of, most_input}
use Rattle.story_player.specs.Sessions.{state_of, game_of}
use Rattle.story_player.specs.Steps.{PlayedLast, PlayedLine, WroteFront}
use Rattle.story_player.specs.Watches.{watched_inner}
use Rattle.story_player.proofs.RunLemmas.{behind_opening, cut_in_opening, cut_so_far, none_from, not_some, run_begins, run_ends, run_is_over, run_more, some_from}
use Rattle.story_player.proofs.Writes.{appends-nothing, consumes-nothing}
use Rattle.story_player.proofs.playing.run.Goals as goal

pub returns-in_err-write_whole-clause-cut : goal.returns-in_err-write_whole-clause-cut
returns-in_err-write_whole-clause-cut g c =
    let p = err_from_is_err_and c.from_residual.result c.from_residual.ensures.1 in
    let unread = g.R.Read.remaining (watched_inner c.args.reader.now) in
    let held = g.W.Write.contents (watched_inner c.args.writer.now) in
    let now = g.W.Write.contents (watched_inner c.write_whole.new.writer) in
    let game = game_of c.args.session.now in
    rw (p.1, p.2, c.in_err-write_whole.ensures.broke.0)
    (cut_in_opening game c.args.echo (opened game).text most_input unread held now (state_of c.args.session.now) (consumes-nothing unread) (subst (λ bs. WroteFront held now bs) c.opening.ensures c.in_err-write_whole.ensures.front))

pub loop-reader-init : goal.loop-reader-init
loop-reader-init g c =
    let unread = g.R.Read.remaining (watched_inner c.args.reader.now) in
    let first = g.W.Write.contents (watched_inner c.write_whole.new.writer) in (
      c.requires.reader,
      c.in_ok-write_whole.ensures.stands,
      refl,
      run_begins (game_of c.args.session.now) c.args.echo [] most_input unread first first (state_of c.args.session.now) (consumes-nothing unread) (appends-nothing first),
      refl,
    )

pub returns-in_err-play_line-clause-cut : goal.returns-in_err-play_line-clause-cut
returns-in_err-play_line-clause-cut g c =
    let p = err_from_is_err_and c.from_residual-in_err-play_line.result c.from_residual-in_err-play_line.ensures.1 in
    let unread = g.R.Read.remaining (watched_inner c.args.reader.now) in
    let a = g.R.Read.remaining (watched_inner c.loop-reader.reader) in
    let rest = g.R.Read.remaining (watched_inner c.play_line.new.reader) in
    let held = g.W.Write.contents (watched_inner c.args.writer.now) in
    let first = g.W.Write.contents (watched_inner c.write_whole.new.writer) in
    let b = g.W.Write.contents (watched_inner c.loop-reader.writer) in
    let now = g.W.Write.contents (watched_inner c.play_line.new.writer) in
    let game = game_of c.args.session.now in
    let from = state_of c.args.session.now in
    let state = state_of c.loop-reader.session in
    let to = state_of c.play_line.new.session in
    let fault = c.in_err-play_line.field-0.0 in
    let opening = subst (λ bs. Appends held first bs) c.opening.ensures c.in_ok-write_whole.ensures.wrote in
    let sofar = behind_opening game c.args.echo (opened game).text most_input c.loop-reader.left unread a held first b from state opening c.loop-reader.invariant.3 in
    let broke = subst (λ t. BrokeOff fault t c.args.echo [] c.loop-reader.left (streams_of a b) (streams_of rest now) state to) c.loop-reader.invariant.2 c.in_err-play_line.ensures.cut in
    rw (p.1, p.2) (cut_so_far fault game c.args.echo (opened game).text most_input c.loop-reader.left unread a rest held b now from state to sofar broke)

pub loop-reader-preserved : goal.loop-reader-preserved
loop-reader-preserved g c =
    let unread = g.R.Read.remaining (watched_inner c.args.reader.now) in
    let a = g.R.Read.remaining (watched_inner c.loop-reader.reader) in
    let rest = g.R.Read.remaining (watched_inner c.play_line.new.reader) in
    let first = g.W.Write.contents (watched_inner c.write_whole.new.writer) in
    let b = g.W.Write.contents (watched_inner c.loop-reader.writer) in
    let now = g.W.Write.contents (watched_inner c.play_line.new.writer) in
    let game = game_of c.args.session.now in
    let from = state_of c.args.session.now in
    let state = state_of c.loop-reader.session in
    let to = state_of c.play_line.new.session in
    let told = c.in_ok-play_line.ensures in
    let going = none_from state.ending (ap is_none (sym c.ending.ensures) ∙ not_some c.ending.result c.is_none.result true c.is_none.ensures c.loop-reader-test.true) in
    let line = subst (λ t. PlayedLine t c.args.echo c.loop-reader.left c.play_line.new.left (streams_of a b) (streams_of rest now) state to) c.loop-reader.invariant.2 (told.whole (ap (λ e. Ok e) c.in-Break.is)) in (
      told.stand.0,
      told.stand.1,
      told.game ∙ c.loop-reader.invariant.2,
      run_more game c.args.echo [] most_input c.loop-reader.left c.play_line.new.left unread a rest first b now from state to c.loop-reader.invariant.3 going line,
      told.story ∙ c.loop-reader.invariant.4,
    )

pub returns-in-Input-clause-played : goal.returns-in-Input-clause-played
returns-in-Input-clause-played g c =
    let unread = g.R.Read.remaining (watched_inner c.args.reader.now) in
    let a = g.R.Read.remaining (watched_inner c.loop-reader.reader) in
    let rest = g.R.Read.remaining (watched_inner c.play_line.new.reader) in
    let held = g.W.Write.contents (watched_inner c.args.writer.now) in
    let first = g.W.Write.contents (watched_inner c.write_whole.new.writer) in
    let b = g.W.Write.contents (watched_inner c.loop-reader.writer) in
    let now = g.W.Write.contents (watched_inner c.play_line.new.writer) in
    let game = game_of c.args.session.now in
    let from = state_of c.args.session.now in
    let state = state_of c.loop-reader.session in
    let to = state_of c.play_line.new.session in
    let opening = subst (λ bs. Appends held first bs) c.opening.ensures c.in_ok-write_whole.ensures.wrote in
    let sofar = behind_opening game c.args.echo (opened game).text most_input c.loop-reader.left unread a held first b from state opening c.loop-reader.invariant.3 in
    let line = subst (λ t. PlayedLast t c.args.echo c.loop-reader.left c.play_line.new.left (streams_of a b) (streams_of rest now) state to) c.loop-reader.invariant.2 (c.in_ok-play_line.ensures.last (ap (λ e. Ok e) c.in-Input.is)) in
    run_ends game c.args.echo c.loop-reader.left c.play_line.new.left unread a rest held b now from state to (state_of c.end_input.new.self) sofar line c.end_input.ensures.state

pub returns-clause-played : goal.returns-clause-played
returns-clause-played g c =
    let unread = g.R.Read.remaining (watched_inner c.args.reader.now) in
    let rest = g.R.Read.remaining (watched_inner c.loop-reader.reader) in
    let held = g.W.Write.contents (watched_inner c.args.writer.now) in
    let first = g.W.Write.contents (watched_inner c.write_whole.new.writer) in
    let now = g.W.Write.contents (watched_inner c.loop-reader.writer) in
    let game = game_of c.args.session.now in
    let from = state_of c.args.session.now in
    let to = state_of c.loop-reader.session in
    let opening = subst (λ bs. Appends held first bs) c.opening.ensures c.in_ok-write_whole.ensures.wrote in
    let sofar = behind_opening game c.args.echo (opened game).text most_input c.loop-reader.left unread rest held first now from to opening c.loop-reader.invariant.3 in
    let over = some_from to.ending (ap is_none (sym c.ending.ensures) ∙ not_some c.ending.result c.is_none.result false c.is_none.ensures c.loop-reader-test.false) in
    run_is_over game c.args.echo c.loop-reader.left unread rest held now from to (state_of c.end_input-2.new.self) over.0 sofar over.1 c.end_input-2.ensures.state
