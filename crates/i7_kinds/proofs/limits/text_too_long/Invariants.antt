use Rattle.std.proofs.Common.{◌≡◌, length}
use Rattle.i7_kinds.specs.Tales.{text_too_long}
use Rattle.i7_kinds.proofs.limits.text_too_long.Given as goal

abbrev pub invariant-loop-rest : goal.invariant-loop-rest
invariant-loop-rest l = text_too_long l.rest ≡ text_too_long l.descriptions

abbrev pub decreases-loop-rest : goal.decreases-loop-rest
decreases-loop-rest l = length l.rest
