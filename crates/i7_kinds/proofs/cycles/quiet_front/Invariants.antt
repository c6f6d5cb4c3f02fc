use Rattle.std.proofs.Common.{◌≡◌, ◌-◌, ◌≤◌, length, take}
use Rattle.std.specs.Prelude.{None}
use Rattle.i7_kinds.specs.Places.{holder_cycle}
use Rattle.i7_kinds.proofs.cycles.quiet_front.Given as goal

abbrev pub invariant-loop-end : goal.invariant-loop-end
invariant-loop-end l = record { order : l.front ≤ l.end; within : l.end ≤ length l.claims; quiet : holder_cycle l.scope.objects (take l.front l.claims) ≡ None }

abbrev pub decreases-loop-end : goal.decreases-loop-end
decreases-loop-end l = l.end - l.front
