use Rattle.std.proofs.Common.{◌≡◌, ◌+◌, ◌++◌, length}
use Rattle.i7_kinds.specs.Tales.{objects_of}
use Rattle.i7_kinds.specs.Making.{made_of}
use Rattle.i7_kinds.proofs.objects.objects_from.Given as goal

abbrev pub invariant-loop-rest : goal.invariant-loop-rest
invariant-loop-rest l = (l.objects.items ++ objects_of (made_of l.makings) l.number l.rest ≡ objects_of (made_of l.makings) 0 l.entries) × (l.number + length l.rest ≡ length l.entries)

abbrev pub decreases-loop-rest : goal.decreases-loop-rest
decreases-loop-rest l = length l.rest
