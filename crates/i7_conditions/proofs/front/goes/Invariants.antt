use Rattle.std.proofs.Common.{◌≡◌, ◌+◌, ◌≤◌, length}
use Rattle.i7_conditions.specs.Fronts.{goes, window_of}
use Rattle.i7_conditions.specs.Scopes.{scope_of}
use Rattle.i7_conditions.proofs.front.goes.Given as goal

abbrev pub invariant-loop-rest : goal.invariant-loop-rest
invariant-loop-rest l = record {
  same : goes (scope_of l.scope) l.words l.column l.count l.rest ≡ goes (scope_of l.scope) l.words l.column 1 (window_of l.words);
  within : l.count + length l.rest ≤ length l.words + 1;
}

abbrev pub decreases-loop-rest : goal.decreases-loop-rest
decreases-loop-rest l = length l.rest
