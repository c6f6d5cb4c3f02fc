use Rattle.std.proofs.Common.{◌≡◌, false, []}
use Rattle.story_player.specs.Watches.{watched_failed, watched_inner}
use Rattle.story_player.specs.Runs.{streams_of}
use Rattle.story_player.specs.Steps.{IsTyping}
use Rattle.story_player.proofs.playing.type_line.Given as goal

abbrev pub invariant-loop-byte : goal.invariant-loop-byte
invariant-loop-byte g l =
    (watched_failed l.reader ≡ false) × (watched_failed l.writer ≡ false)
    × IsTyping l.echo l.initial.left l.left (streams_of (g.R.Read.remaining (watched_inner l.initial.reader)) (g.W.Write.contents (watched_inner l.initial.writer))) (streams_of (g.R.Read.remaining (watched_inner l.reader)) (g.W.Write.contents (watched_inner l.writer))) l.line []

abbrev pub decreases-loop-byte : goal.decreases-loop-byte
decreases-loop-byte g l = l.left
