use Rattle.std.proofs.Common.{◌≡◌, false, length}
use Rattle.story_player.specs.Watches.{watched_failed, watched_inner}
use Rattle.story_player.proofs.Writes.{WroteSome}
use Rattle.story_player.proofs.playing.write_whole.Given as goal

abbrev pub invariant-loop-rest : goal.invariant-loop-rest
invariant-loop-rest g l =
    (watched_failed l.writer ≡ false)
    × WroteSome (g.W.Write.contents (watched_inner l.initial.writer)) (g.W.Write.contents (watched_inner l.writer)) l.bytes l.rest

abbrev pub decreases-loop-rest : goal.decreases-loop-rest
decreases-loop-rest g l = length l.rest
