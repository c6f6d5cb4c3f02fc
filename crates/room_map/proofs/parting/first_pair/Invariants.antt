use Rattle.std.proofs.Common.{length}
use Rattle.room_map.proofs.parting.first_pair.Given as goal

abbrev pub decreases-loop-rest : goal.decreases-loop-rest
decreases-loop-rest l = length l.rest
