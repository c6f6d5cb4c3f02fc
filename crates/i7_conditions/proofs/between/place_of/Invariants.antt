use Rattle.std.proofs.Common.{◌≡◌, ◌+◌, ◌≤◌, length}
use Rattle.i7_conditions.specs.Between.{place_from}
use Rattle.i7_conditions.specs.Scopes.{scope_of}
use Rattle.i7_conditions.proofs.between.place_of.Given as goal

abbrev pub invariant-loop-rest : goal.invariant-loop-rest
invariant-loop-rest l = record {
  same : place_from (scope_of l.scope) l.word l.words l.count l.rest ≡ place_from (scope_of l.scope) l.word l.words 0 l.words;
  within : l.count + length l.rest ≤ length l.words;
}

abbrev pub decreases-loop-rest : goal.decreases-loop-rest
decreases-loop-rest l = length l.rest
