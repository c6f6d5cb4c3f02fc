use Rattle.std.proofs.Common.{◌≡◌, ◌++◌, length, map}
use Rattle.i7_claims.specs.Claims.{usual_quality}
use Rattle.i7_claims.proofs.usuals.add_usuals.Given as goal

abbrev pub invariant-loop-rest : goal.invariant-loop-rest
invariant-loop-rest l = l.claims.items ++ map (usual_quality l.kind l.line) l.rest ≡ l.initial.claims.items ++ map (usual_quality l.kind l.line) l.qualities

abbrev pub decreases-loop-rest : goal.decreases-loop-rest
decreases-loop-rest l = length l.rest
