use Rattle.std.proofs.Common.{◌≡◌, length}
use Rattle.story_format.specs.Once.{are_unmarked}
use Rattle.story_format.proofs.once.are_unmarked.Given as goal

abbrev pub invariant-loop-rest : goal.invariant-loop-rest
invariant-loop-rest l = are_unmarked l.marks.items l.rest ≡ are_unmarked l.initial.marks.items l.numbers

abbrev pub decreases-loop-rest : goal.decreases-loop-rest
decreases-loop-rest l = length l.rest
