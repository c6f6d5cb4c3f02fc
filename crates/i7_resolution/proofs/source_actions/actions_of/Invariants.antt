use Rattle.std.proofs.Common.{◌≡◌, ◌++◌, map, length}
use Rattle.i7_resolution.specs.SourceActions.{action_of, actions_lent, actions_with}
use Rattle.i7_resolution.proofs.source_actions.actions_of.Given as goal

abbrev pub invariant-loop-rest : goal.invariant-loop-rest
invariant-loop-rest l = l.actions.items ++ map action_of (actions_lent l.rest) ≡ actions_with (actions_lent l.declared)

abbrev pub decreases-loop-rest : goal.decreases-loop-rest
decreases-loop-rest l = length l.rest
