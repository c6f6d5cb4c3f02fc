use Rattle.std.proofs.Common.{length}
use Rattle.story_player.proofs.letting_go.+tell_from.Given as goal

abbrev pub decreases-tell_from : goal.decreases-tell_from
decreases-tell_from l = length l.kept.now
