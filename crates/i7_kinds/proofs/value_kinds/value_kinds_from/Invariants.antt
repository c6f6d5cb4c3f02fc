use Rattle.std.proofs.Common.{◌≡◌, ◌+◌, ◌++◌, length, map}
use Rattle.i7_kinds.specs.ValueKinds.{value_kinds_from}
use Rattle.i7_kinds.proofs.value_kinds.value_kinds_from.Given as goal

abbrev pub invariant-loop-rest : goal.invariant-loop-rest
invariant-loop-rest l = record {
  same : l.found.items ++ value_kinds_from l.kinds l.givens l.property l.claims (map (λ name. name.items) l.rest)
      ≡ value_kinds_from l.kinds l.givens l.first l.claims (map (λ name. name.items) l.names);
  counted : l.property + length l.rest ≡ l.first + length l.names;
}

abbrev pub decreases-loop-rest : goal.decreases-loop-rest
decreases-loop-rest l = length l.rest
