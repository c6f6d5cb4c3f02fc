use Rattle.std.proofs.Common.{length}
use Rattle.i7_rules.specs.Knowns.{known_of}
use Rattle.i7_rules.specs.RuleList.{rules_lent}
use Rattle.i7_rules.specs.RuleScans.{IsSoFar, state_of}
use Rattle.i7_rules.proofs.Looked.{IsLookedTo}
use Rattle.i7_rules.proofs.source_rules.read_rules.Given as goal

abbrev pub invariant-loop-rest : goal.invariant-loop-rest
invariant-loop-rest l = IsLookedTo (λ before. IsSoFar (known_of l.known) before (state_of l.so_far)) (rules_lent l.rules) (rules_lent l.rest)

abbrev pub decreases-loop-rest : goal.decreases-loop-rest
decreases-loop-rest l = length l.rest
