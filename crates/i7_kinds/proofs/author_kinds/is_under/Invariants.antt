use Rattle.std.proofs.Common.{◌≡◌, length}
use Rattle.world_meaning.specs.Kinds.{climbs, is_under}
use Rattle.i7_kinds.proofs.author_kinds.is_under.Given as goal

abbrev pub invariant-loop-left : goal.invariant-loop-left
invariant-loop-left l = climbs l.left l.parents l.at l.other ≡ is_under l.parents l.kind l.other

abbrev pub decreases-loop-left : goal.decreases-loop-left
decreases-loop-left l = length l.left
