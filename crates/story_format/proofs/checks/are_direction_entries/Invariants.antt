use Rattle.std.proofs.Common.{◌≡◌, length}
use Rattle.story_format.specs.Checks.{are_direction_entries}
use Rattle.story_format.proofs.checks.are_direction_entries.Given as goal

abbrev pub invariant-loop-directions : goal.invariant-loop-directions
invariant-loop-directions l = are_direction_entries l.strings l.parents l.directions l.entries ≡ are_direction_entries l.strings l.parents l.initial.directions l.initial.entries

abbrev pub decreases-loop-directions : goal.decreases-loop-directions
decreases-loop-directions l = length l.directions
