use Rattle.std.proofs.Common.{◌≡◌, ◌++◌, ◌+◌, length}
use Rattle.i7_kinds.specs.Making.{made_of}
use Rattle.i7_kinds.specs.Tales.{numbers_from}
use Rattle.i7_kinds.proofs.numbers.numbers_of.Given as goal

abbrev pub invariant-loop-rest : goal.invariant-loop-rest
invariant-loop-rest l = (l.found.items ++ numbers_from (made_of l.makings) l.object l.kind l.property l.rest ≡ numbers_from (made_of l.makings) l.object l.kind (length l.makings.flags.now) l.makings.numbers.now) × (l.property + length l.rest ≡ length l.makings.flags.now + length l.makings.numbers.now)

abbrev pub decreases-loop-rest : goal.decreases-loop-rest
decreases-loop-rest l = length l.rest
