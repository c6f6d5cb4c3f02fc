use Rattle.std.proofs.Common.{◌≡◌, ◌++◌, length}
use Rattle.std.specs.Prelude.{flat_map}
use Rattle.i7_claims.specs.Claims.{has_all}
use Rattle.i7_claims.proofs.demanding.add_each_qualities.Given as goal

abbrev pub invariant-loop-rest : goal.invariant-loop-rest
invariant-loop-rest l = l.claims.items ++ flat_map (has_all l.qualities l.line) l.rest ≡ l.initial.claims.items ++ flat_map (has_all l.qualities l.line) l.subjects

abbrev pub decreases-loop-rest : goal.decreases-loop-rest
decreases-loop-rest l = length l.rest
