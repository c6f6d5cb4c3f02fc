use Rattle.std.proofs.Common.{◌≡◌, ◌≤◌, ◌+◌, length}
use Rattle.story_format.specs.Soundness.{are_in_turn}
use Rattle.story_format.proofs.soundness.are_in_turn.Given as goal

abbrev pub invariant-loop-rest : goal.invariant-loop-rest
invariant-loop-rest l = record { same : are_in_turn l.next l.rest ≡ are_in_turn 0 l.numbers; bound : l.next + length l.rest ≤ length l.numbers }

abbrev pub decreases-loop-rest : goal.decreases-loop-rest
decreases-loop-rest l = length l.rest
