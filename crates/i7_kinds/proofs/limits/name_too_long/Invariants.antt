use Rattle.std.proofs.Common.{◌≡◌, length}
use Rattle.i7_kinds.specs.Tales.{name_too_long}
use Rattle.i7_claims.specs.Views.{mentions_of}
use Rattle.i7_kinds.proofs.limits.name_too_long.Given as goal

abbrev pub invariant-loop-rest : goal.invariant-loop-rest
invariant-loop-rest l = name_too_long (mentions_of l.rest) ≡ name_too_long (mentions_of l.mentions)

abbrev pub decreases-loop-rest : goal.decreases-loop-rest
decreases-loop-rest l = length l.rest
