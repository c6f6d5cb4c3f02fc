use Rattle.std.proofs.Common.{◌≡◌, ◌++◌, length}
use Rattle.i7_rules.specs.RuleList.{rules_in, rules_lent}
use Rattle.i7_rules.proofs.rule_list.rules_in.Given as goal

abbrev pub invariant-loop-rest : goal.invariant-loop-rest
invariant-loop-rest l = rules_lent l.rules.items ++ rules_in l.rest ≡ rules_in l.sentences

abbrev pub decreases-loop-rest : goal.decreases-loop-rest
decreases-loop-rest l = length l.rest
