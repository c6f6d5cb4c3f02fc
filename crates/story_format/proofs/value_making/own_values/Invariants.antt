use Rattle.std.proofs.Common.{◌≡◌, ◌++◌, length, map}
use Rattle.story_format.specs.WordedViews.{all_worded}
use Rattle.story_format.proofs.value_making.own_values.Given as goal

abbrev pub invariant-loop-rest : goal.invariant-loop-rest
invariant-loop-rest l = l.all.items ++ map (λ w. w.object.values) (all_worded l.rest) ≡ map (λ w. w.object.values) (all_worded l.worded)

abbrev pub decreases-loop-rest : goal.decreases-loop-rest
decreases-loop-rest l = length l.rest
