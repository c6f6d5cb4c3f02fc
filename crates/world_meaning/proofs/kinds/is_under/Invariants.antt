use Rattle.std.proofs.Common.{◌≡◌, length}
use Rattle.world_meaning.specs.Kinds.{climbs}
use Rattle.world_meaning.proofs.kinds.is_under.Given as goal

abbrev pub invariant-loop-left : goal.invariant-loop-left
invariant-loop-left l = climbs l.left l.parents l.at l.other ≡ climbs l.parents l.parents l.fn.kind l.other

abbrev pub decreases-loop-left : goal.decreases-loop-left
decreases-loop-left l = length l.left
