use Rattle.std.proofs.Common.{◌≡◌, ◌+◌, ◌≤◌, length}
use Rattle.std.specs.Prelude.{None, option_map}
use Rattle.i7_actions.specs.TryingForms.{best_from, can_try}
use Rattle.i7_conditions.specs.Scopes.{scope_of}
use Rattle.i7_actions.proofs.choice.best_of.Given as goal

abbrev pub invariant-loop-rest : goal.invariant-loop-rest
invariant-loop-rest l = record {
  same : best_from (can_try (scope_of l.scope) l.words) l.number (option_map (λ b. (b.0, b.1.now)) l.best) l.rest ≡ best_from (can_try (scope_of l.scope) l.words) 0 None l.actions;
  bound : l.number + length l.rest ≤ 255;
}

abbrev pub decreases-loop-rest : goal.decreases-loop-rest
decreases-loop-rest l = length l.rest
