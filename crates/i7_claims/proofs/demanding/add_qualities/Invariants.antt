use Rattle.std.proofs.Common.{◌≡◌, ◌++◌, length}
use Rattle.i7_claims.specs.Claims.{has_all}
use Rattle.i7_claims.proofs.demanding.add_qualities.Given as goal

abbrev pub invariant-loop-rest : goal.invariant-loop-rest
invariant-loop-rest l = l.claims.items ++ has_all l.rest l.line l.name ≡ l.initial.claims.items ++ has_all l.qualities l.line l.name

abbrev pub decreases-loop-rest : goal.decreases-loop-rest
decreases-loop-rest l = length l.rest
