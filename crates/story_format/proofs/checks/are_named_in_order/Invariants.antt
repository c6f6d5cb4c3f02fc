use Rattle.std.proofs.Common.{◌≡◌, ◌≤◌, length}
use Rattle.story_format.specs.Checks.{are_named_in_order}
use Rattle.story_format.proofs.checks.are_named_in_order.Given as goal

abbrev pub invariant-loop-rest : goal.invariant-loop-rest
invariant-loop-rest l = record { same : are_named_in_order l.next l.rest ≡ are_named_in_order 0 l.numbers; bound : l.next ≤ 65536 }

abbrev pub decreases-loop-rest : goal.decreases-loop-rest
decreases-loop-rest l = length l.rest
