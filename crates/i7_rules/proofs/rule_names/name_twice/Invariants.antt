use Rattle.std.proofs.Common.{length}
use Rattle.i7_rules.specs.RuleList.{rules_lent}
use Rattle.i7_rules.proofs.Looked.{IsLookedTo}
use Rattle.i7_rules.proofs.Named.{IsNamedTo}
use Rattle.i7_rules.proofs.rule_names.name_twice.Given as goal

abbrev pub invariant-loop-rest : goal.invariant-loop-rest
invariant-loop-rest l = IsLookedTo (IsNamedTo l.names l.low) (rules_lent l.rules) (rules_lent l.rest)

abbrev pub decreases-loop-rest : goal.decreases-loop-rest
decreases-loop-rest l = length l.rest
