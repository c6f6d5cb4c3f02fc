use Rattle.std.proofs.Common.{◌≡◌, ◌++◌, ◌+◌, length}
use Rattle.i7_kinds.specs.Grants.{rising_of}
use Rattle.i7_kinds.proofs.grants.rising_of.Given as goal

abbrev pub invariant-loop-rest : goal.invariant-loop-rest
invariant-loop-rest l = (l.found.items ++ rising_of l.among l.kind l.rest ≡ rising_of l.among 0 l.kinds) × (l.kind + length l.rest ≡ length l.kinds)

abbrev pub decreases-loop-rest : goal.decreases-loop-rest
decreases-loop-rest l = length l.rest
