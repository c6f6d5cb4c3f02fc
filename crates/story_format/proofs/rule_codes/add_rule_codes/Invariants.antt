use Rattle.std.proofs.Common.{◌≡◌, ◌++◌, length}
use Rattle.story_format.specs.RuleChecks.{codes_in_rules}
use Rattle.story_format.proofs.rule_codes.add_rule_codes.Given as goal

abbrev pub invariant-loop-rest : goal.invariant-loop-rest
invariant-loop-rest l = l.numbers.items ++ codes_in_rules l.rest ≡ l.initial.numbers.items ++ codes_in_rules l.rules

abbrev pub decreases-loop-rest : goal.decreases-loop-rest
decreases-loop-rest l = length l.rest
