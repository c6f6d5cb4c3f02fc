use Rattle.std.proofs.Common.{◌≡◌, ◌+◌, ◌≤◌, length}
use Rattle.i7_kinds.specs.Cycles.{rise_from}
use Rattle.i7_kinds.proofs.ranks.rise.Given as goal

abbrev pub invariant-loop-rest : goal.invariant-loop-rest
invariant-loop-rest l = record { same : rise_from l.ranks l.object l.rest ≡ rise_from l.ranks 0 l.contents; bound : l.object + length l.rest ≤ length l.contents }

abbrev pub decreases-loop-rest : goal.decreases-loop-rest
decreases-loop-rest l = length l.rest
