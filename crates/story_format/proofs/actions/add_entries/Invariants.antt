-- Those so far, and those of what is left.
use Rattle.std.proofs.Common.{◌≡◌, ◌++◌, length, map}
use Rattle.story_format.specs.RuleMaking.{action_entry}
use Rattle.story_format.proofs.actions.add_entries.Given as goal

abbrev pub invariant-loop-rest : goal.invariant-loop-rest
invariant-loop-rest l = l.entries.items ++ map action_entry l.rest ≡ l.initial.entries.items ++ map action_entry l.actions

abbrev pub decreases-loop-rest : goal.decreases-loop-rest
decreases-loop-rest l = length l.rest
