use Rattle.std.proofs.Common.{◌≡◌, ◌≤◌, length}
use Rattle.world_meaning.specs.Declarations.{are_rising}
use Rattle.story_format.proofs.world_checks.are_rising.Given as goal

abbrev pub invariant-loop-rest : goal.invariant-loop-rest
invariant-loop-rest l = record { same : are_rising l.next l.rest ≡ are_rising 0 l.numbers; bound : l.next ≤ 256 }

abbrev pub decreases-loop-rest : goal.decreases-loop-rest
decreases-loop-rest l = length l.rest
