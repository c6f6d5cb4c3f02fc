use Rattle.std.proofs.Common.{◌≡◌, ◌++◌, length, map, Some}
use Rattle.i7_rules.specs.RuleList.{standard_names}
use Rattle.i7_resolution.proofs.numbered_rule.add_standard.Given as goal

abbrev pub invariant-loop-rest : goal.invariant-loop-rest
invariant-loop-rest l = l.names.items ++ map (λ name. Some name.now) l.rest ≡ l.initial.names.items ++ map Some standard_names

abbrev pub decreases-loop-rest : goal.decreases-loop-rest
decreases-loop-rest l = length l.rest
