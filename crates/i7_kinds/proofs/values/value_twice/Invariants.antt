use Rattle.std.proofs.Common.{◌≡◌, length}
use Rattle.i7_claims.specs.Scans.{lowest}
use Rattle.i7_kinds.specs.Values.{shows_contrary, value_at, value_twice, with_value_of}
use Rattle.i7_kinds.proofs.values.value_twice.Given as goal

abbrev pub invariant-loop-rest : goal.invariant-loop-rest
invariant-loop-rest l = lowest (shows_contrary l.bearer l.scope) (with_value_of l.bearer l.scope) (value_at l.values) l.rest l.found ≡ value_twice l.bearer l.scope l.claims

abbrev pub decreases-loop-rest : goal.decreases-loop-rest
decreases-loop-rest l = length l.rest
