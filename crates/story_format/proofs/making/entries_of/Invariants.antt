use Rattle.std.proofs.Common.{◌≡◌, ◌++◌, ◌+◌, ◌≤◌, length}
use Rattle.story_format.specs.Making.{entries_of}
use Rattle.story_format.specs.WordedViews.{all_worded}
use Rattle.story_format.proofs.making.entries_of.Given as goal

abbrev pub invariant-loop-rest : goal.invariant-loop-rest
invariant-loop-rest l = record { made : l.entries.items ++ entries_of l.strings l.next (all_worded l.rest) ≡ entries_of l.strings 0 (all_worded l.worded); bound : l.next + length l.rest ≤ length l.worded }

abbrev pub decreases-loop-rest : goal.decreases-loop-rest
decreases-loop-rest l = length l.rest
