use Rattle.std.proofs.Common.{◌≡◌, ◌++◌, length, map}
use Rattle.i7_claims.proofs.choosing.texts_of.Given as goal

abbrev pub invariant-loop-rest : goal.invariant-loop-rest
invariant-loop-rest l = l.texts.items ++ map (λ name. name.text) l.rest ≡ map (λ name. name.text) l.names

abbrev pub decreases-loop-rest : goal.decreases-loop-rest
decreases-loop-rest l = length l.rest
