use Rattle.std.proofs.Common.{◌≡◌, ◌++◌, length, map}
use Rattle.i7_claims.specs.Claims.{demands}
use Rattle.i7_claims.proofs.demanding.add_each.Given as goal

abbrev pub invariant-loop-rest : goal.invariant-loop-rest
invariant-loop-rest l = l.claims.items ++ map (demands l.kind l.line) l.rest ≡ l.initial.claims.items ++ map (demands l.kind l.line) l.subjects

abbrev pub decreases-loop-rest : goal.decreases-loop-rest
decreases-loop-rest l = length l.rest
