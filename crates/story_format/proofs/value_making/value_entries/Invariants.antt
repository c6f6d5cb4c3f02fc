use Rattle.std.proofs.Common.{◌≡◌, ◌++◌, length, map}
use Rattle.story_format.specs.Making.{value_entry}
use Rattle.story_format.proofs.value_making.value_entries.Given as goal

abbrev pub invariant-loop-rest : goal.invariant-loop-rest
invariant-loop-rest l = l.entries.items ++ map (value_entry l.strings) l.rest ≡ map (value_entry l.strings) l.values

abbrev pub decreases-loop-rest : goal.decreases-loop-rest
decreases-loop-rest l = length l.rest
