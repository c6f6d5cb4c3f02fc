-- Those so far, and those of what is left.
use Rattle.std.proofs.Common.{◌≡◌, ◌+◌, ◌*◌, ◌≤◌, length, map}
use Rattle.play_meaning.specs.Patterns.{rule_meant}
use Rattle.story_format.specs.RuleMaking.{codes_of_rules}
use Rattle.story_format.proofs.rule_making.codes_of_rules.Given as goal

abbrev pub invariant-loop-rest : goal.invariant-loop-rest
invariant-loop-rest l = record { counted : l.count + codes_of_rules (map rule_meant l.rest) ≡ codes_of_rules (map rule_meant l.rules); bound : l.count + 2 * length l.rest ≤ 2 * length l.rules }

abbrev pub decreases-loop-rest : goal.decreases-loop-rest
decreases-loop-rest l = length l.rest
