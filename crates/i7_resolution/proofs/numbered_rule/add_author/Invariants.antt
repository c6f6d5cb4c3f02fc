use Rattle.std.proofs.Common.{◌≡◌, ◌++◌, length, map}
use Rattle.i7_rules.specs.RuleList.{name_of, rules_lent}
use Rattle.i7_resolution.proofs.numbered_rule.add_author.Given as goal

abbrev pub invariant-loop-rest : goal.invariant-loop-rest
invariant-loop-rest l = l.names.items ++ map name_of (rules_lent l.rest) ≡ l.initial.names.items ++ map name_of (rules_lent l.rules)

abbrev pub decreases-loop-rest : goal.decreases-loop-rest
decreases-loop-rest l = length l.rest
