use Rattle.std.proofs.Common.{◌≡◌, ◌+◌, length}
use Rattle.i7_kinds.specs.Suits.{room_from}
use Rattle.i7_kinds.proofs.suits.room_among.Given as goal

abbrev pub invariant-loop-rest : goal.invariant-loop-rest
invariant-loop-rest l = (room_from l.parents l.object l.rest ≡ room_from l.parents 13 l.knowns) × (l.object + length l.rest ≡ 13 + length l.knowns)

abbrev pub decreases-loop-rest : goal.decreases-loop-rest
decreases-loop-rest l = length l.rest
