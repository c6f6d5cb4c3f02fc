use Rattle.std.proofs.Common.{◌≡◌, ◌++◌, ◌+◌, length, map}
use Rattle.i7_kinds.specs.Grants.{flags_from}
use Rattle.i7_kinds.proofs.grants.flags_from.Given as goal

abbrev pub invariant-loop-rest : goal.invariant-loop-rest
invariant-loop-rest l = (l.flags.items ++ flags_from l.kinds l.givens l.property (map (λ row. row.2.now) l.bases) (map (λ name. name.items) l.rest) ≡ flags_from l.kinds l.givens l.first (map (λ row. row.2.now) l.rows) (map (λ name. name.items) l.names)) × (l.property + length l.rest ≡ l.first + length l.names)

abbrev pub decreases-loop-rest : goal.decreases-loop-rest
decreases-loop-rest l = length l.rest
