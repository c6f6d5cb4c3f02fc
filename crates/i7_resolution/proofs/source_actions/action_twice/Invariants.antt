use Rattle.std.proofs.Common.{◌≡◌, length}
use Rattle.i7_sentences.specs.Lowest.{lower_of}
use Rattle.i7_resolution.specs.SourceActions.{action_twice, actions_lent, twice_among}
use Rattle.i7_resolution.proofs.source_actions.action_twice.Given as goal

abbrev pub invariant-loop-rest : goal.invariant-loop-rest
invariant-loop-rest l = lower_of l.low (twice_among l.names (actions_lent l.rest)) ≡ action_twice (actions_lent l.declared)

abbrev pub decreases-loop-rest : goal.decreases-loop-rest
decreases-loop-rest l = length l.rest
