use Rattle.std.proofs.Common.{◌≡◌, ◌+◌, ◌≤◌, length}
use Rattle.i7_conditions.specs.Scopes.{scope_of}
use Rattle.i7_patterns.specs.ActionForms.{aspects_at}
use Rattle.i7_patterns.specs.Lowest.{lowest_from}
use Rattle.i7_patterns.proofs.aspects.aspects_in.Given as goal

abbrev pub invariant-loop-rest : goal.invariant-loop-rest
invariant-loop-rest l = record {
  same : lowest_from (aspects_at (scope_of l.scope) l.action l.words) l.len l.rest ≡ lowest_from (aspects_at (scope_of l.scope) l.action l.words) 0 l.words;
  within : l.len + length l.rest ≤ length l.words;
}

abbrev pub decreases-loop-rest : goal.decreases-loop-rest
decreases-loop-rest l = length l.rest
