use Rattle.std.proofs.Common.{◌≡◌, ◌++◌, length}
use Rattle.std.specs.List.{flat_map}
use Rattle.story_format.specs.Making.{ways_of}
use Rattle.story_format.specs.WordedViews.{all_worded}
use Rattle.story_format.proofs.making.ways_of.Given as goal

abbrev pub invariant-loop-rest : goal.invariant-loop-rest
invariant-loop-rest l = l.ways.items ++ flat_map (ways_of l.parents) (all_worded l.rest) ≡ flat_map (ways_of l.parents) (all_worded l.worded)

abbrev pub decreases-loop-rest : goal.decreases-loop-rest
decreases-loop-rest l = length l.rest
