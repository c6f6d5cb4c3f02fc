use Rattle.std.proofs.Common.{◌≡◌, ◌≤◌, ◌+◌, ◌++◌, length}
use Rattle.i7_claims.specs.Claims.{values_from}
use Rattle.i7_claims.proofs.choosing.add_values_from.Given as goal

abbrev pub invariant-loop-rest : goal.invariant-loop-rest
invariant-loop-rest l = record {
  same : l.claims.items ++ values_from l.kind l.line l.place l.rest ≡ l.initial.claims.items ++ values_from l.kind l.line 0 l.values;
  bound : l.place + length l.rest ≤ length l.values;
}

abbrev pub decreases-loop-rest : goal.decreases-loop-rest
decreases-loop-rest l = length l.rest
