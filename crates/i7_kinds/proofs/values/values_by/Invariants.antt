use Rattle.std.proofs.Common.{◌≡◌, length}
use Rattle.std.specs.Prelude.{fold}
use Rattle.i7_kinds.specs.Values.{value_at, values_by, with_value_of}
use Rattle.i7_kinds.proofs.values.values_by.Given as goal

abbrev pub invariant-loop-rest : goal.invariant-loop-rest
invariant-loop-rest l = fold (with_value_of l.bearer l.scope) (value_at l.values) l.rest ≡ values_by l.bearer l.scope l.claims

abbrev pub decreases-loop-rest : goal.decreases-loop-rest
decreases-loop-rest l = length l.rest
