use Rattle.std.proofs.Common.{◌≡◌, ◌++◌, length}
use Rattle.story_format.proofs.world_making.all_granted.Given as goal

abbrev pub invariant-loop-rest : goal.invariant-loop-rest
invariant-loop-rest l = l.table.items ++ l.rest ≡ l.granted

abbrev pub decreases-loop-rest : goal.decreases-loop-rest
decreases-loop-rest l = length l.rest
