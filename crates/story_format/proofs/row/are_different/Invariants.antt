use Rattle.std.proofs.Common.{◌≡◌, length}
use Rattle.story_format.specs.Sizes.{are_different}
use Rattle.story_format.proofs.row.are_different.Given as goal

abbrev pub invariant-loop-rest : goal.invariant-loop-rest
invariant-loop-rest l = are_different l.rest ≡ are_different l.numbers

abbrev pub decreases-loop-rest : goal.decreases-loop-rest
decreases-loop-rest l = length l.rest
