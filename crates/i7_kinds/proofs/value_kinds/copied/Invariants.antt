use Rattle.std.proofs.Common.{◌≡◌, ◌++◌, length}
use Rattle.i7_kinds.proofs.value_kinds.copied.Given as goal

abbrev pub invariant-loop-rest : goal.invariant-loop-rest
invariant-loop-rest l = l.copies.items ++ l.rest ≡ l.texts

abbrev pub decreases-loop-rest : goal.decreases-loop-rest
decreases-loop-rest l = length l.rest
