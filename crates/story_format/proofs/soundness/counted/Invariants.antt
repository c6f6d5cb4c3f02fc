use Rattle.std.proofs.Common.{◌≡◌, length}
use Rattle.code_table.specs.Strings.{counted_on}
use Rattle.story_format.proofs.soundness.counted.Given as goal

abbrev pub invariant-loop-rest : goal.invariant-loop-rest
invariant-loop-rest l = counted_on l.next l.rest ≡ counted_on l.first l.numbers

abbrev pub decreases-loop-rest : goal.decreases-loop-rest
decreases-loop-rest l = length l.rest
