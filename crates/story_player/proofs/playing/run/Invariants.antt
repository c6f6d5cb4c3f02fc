use Rattle.std.proofs.Common.{◌≡◌, false, ◌+◌, []}
use Rattle.std.specs.Prelude.{if◌then◌else◌, is_none}
use Rattle.story_player.specs.Runs.{most_input, streams_of}
use Rattle.story_player.specs.Sessions.{game_of, state_of, story_of}
use Rattle.story_player.specs.Watches.{watched_failed, watched_inner}
use Rattle.story_player.proofs.RunLemmas.{RunSoFar}
use Rattle.story_player.proofs.playing.run.Given as goal

abbrev pub invariant-loop-reader : goal.invariant-loop-reader
invariant-loop-reader g l =
    (watched_failed l.reader ≡ false) × (watched_failed l.writer ≡ false)
    × (game_of l.session ≡ game_of l.initial.session)
    × RunSoFar (game_of l.initial.session) l.echo [] most_input l.left (streams_of (g.R.Read.remaining (watched_inner l.initial.reader)) (g.W.Write.contents (watched_inner l.initial.writer))) (streams_of (g.R.Read.remaining (watched_inner l.reader)) (g.W.Write.contents (watched_inner l.writer))) (state_of l.initial.session) (state_of l.session)
    × (story_of l.session ≡ story_of l.initial.session)

abbrev pub decreases-loop-reader : goal.decreases-loop-reader
decreases-loop-reader g l = l.left + (if is_none (state_of l.session).ending then 1 else 0)
