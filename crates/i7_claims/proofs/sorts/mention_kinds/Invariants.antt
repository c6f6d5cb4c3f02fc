use Rattle.std.proofs.Common.{◌≡◌, length, map}
use Rattle.i7_claims.specs.Sorts.{mention_firsts}
use Rattle.i7_claims.proofs.sorts.mention_kinds.Given as goal

abbrev pub invariant-loop-rest : goal.invariant-loop-rest
invariant-loop-rest l = mention_firsts l.names (map (λ kind. kind.0.now) l.rest) ≡ mention_firsts l.initial.names (map (λ kind. kind.0.now) l.kinds)

abbrev pub decreases-loop-rest : goal.decreases-loop-rest
decreases-loop-rest l = length l.rest
