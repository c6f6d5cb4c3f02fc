use Rattle.std.proofs.Common.{◌≡◌, length}
use Rattle.i7_kinds.specs.Cycles.{are_above}
use Rattle.i7_kinds.proofs.ranks.are_above.Given as goal

abbrev pub invariant-loop-rest : goal.invariant-loop-rest
invariant-loop-rest l = are_above l.ranks l.rank l.rest ≡ are_above l.ranks l.rank l.things

abbrev pub decreases-loop-rest : goal.decreases-loop-rest
decreases-loop-rest l = length l.rest
