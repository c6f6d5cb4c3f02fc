use Rattle.std.proofs.Common.{◌≡◌, take}
use Rattle.story_format.specs.ValueChecks.{strings_in_values}
use Rattle.story_format.proofs.value_checks.strings_in_values.Given as goal

abbrev pub invariant-loop-entry : goal.invariant-loop-entry
invariant-loop-entry l = l.numbers.items ≡ strings_in_values (take l.entry-index l.values)
