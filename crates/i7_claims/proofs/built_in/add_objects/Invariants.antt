use Rattle.std.proofs.Common.{◌≡◌, ◌++◌, length, map}
use Rattle.i7_claims.specs.Standings.{naming}
use Rattle.i7_claims.specs.declared.claim.Standing.TheVariants as stands
use Rattle.i7_claims.proofs.built_in.add_objects.Given as goal

abbrev pub invariant-loop-rest : goal.invariant-loop-rest
invariant-loop-rest l = l.namings.items ++ map (naming stands.Object) (map (λ key. key.items) l.rest) ≡ l.initial.namings.items ++ map (naming stands.Object) (map (λ key. key.items) l.keys)

abbrev pub decreases-loop-rest : goal.decreases-loop-rest
decreases-loop-rest l = length l.rest
