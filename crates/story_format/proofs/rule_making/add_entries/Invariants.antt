use Rattle.std.proofs.Common.{◌≡◌, ◌++◌, ◌+◌, ◌*◌, ◌≤◌, length, map}
use Rattle.play_meaning.specs.Patterns.{rule_meant}
use Rattle.story_format.specs.RuleMaking.{rule_entries}
use Rattle.story_format.proofs.rule_making.add_entries.Given as goal

abbrev pub invariant-loop-rest : goal.invariant-loop-rest
invariant-loop-rest l = record { made : l.entries.items ++ rule_entries l.next (map rule_meant l.rest) ≡ l.initial.entries.items ++ rule_entries l.first (map rule_meant l.rules); bound : l.next + 2 * length l.rest ≤ 5000 }

abbrev pub decreases-loop-rest : goal.decreases-loop-rest
decreases-loop-rest l = length l.rest
