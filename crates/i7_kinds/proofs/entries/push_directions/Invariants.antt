use Rattle.std.proofs.Common.{◌≡◌, ◌++◌, length, map}
use Rattle.world_meaning.specs.Directions.{all_directions}
use Rattle.i7_kinds.specs.Tales.{direction_entry}
use Rattle.i7_kinds.proofs.entries.push_directions.Given as goal

abbrev pub invariant-loop-rest : goal.invariant-loop-rest
invariant-loop-rest l = l.entries.items ++ map direction_entry l.rest ≡ l.initial.entries.items ++ map direction_entry all_directions

abbrev pub decreases-loop-rest : goal.decreases-loop-rest
decreases-loop-rest l = length l.rest
