use Rattle.std.proofs.Common.{◌≡◌, ◌≤◌, length, drop}
use Rattle.i7_conditions.specs.Fronts.{column_of}
use Rattle.i7_conditions.specs.Scopes.{scope_of}
use Rattle.i7_conditions.proofs.Stopped.{IsStopped}
use Rattle.i7_conditions.proofs.front.column_of.Given as goal

abbrev pub invariant-loop-place : goal.invariant-loop-place
invariant-loop-place l = record {
  within : l.place ≤ length l.words;
  same : l.column.items ≡ column_of (scope_of l.scope) (drop l.place l.words);
  stopped : IsStopped l.column.items l.stops;
  few : l.stops ≤ length l.column.items;
}

abbrev pub decreases-loop-place : goal.decreases-loop-place
decreases-loop-place l = l.place
