use Rattle.std.proofs.Common.{◌≡◌, ◌+◌, length}
use Rattle.i7_kinds.specs.Cycles.{comes_to, encloses, things_held, unseen}
use Rattle.i7_kinds.proofs.cycles.encloses.Given as goal

-- the walk that is left finds what the whole walk finds
abbrev pub invariant-loop-at : goal.invariant-loop-at
invariant-loop-at l = comes_to (unseen l.contents l.seen.items) l.todo.items l.other ≡ encloses l.contents l.object l.other

abbrev pub decreases-loop-at : goal.decreases-loop-at
decreases-loop-at l = things_held (unseen l.contents l.seen.items) + length l.todo.items
