use Rattle.std.proofs.Common.{◌≡◌, take}
use Rattle.std.specs.List.{flat_map}
use Rattle.story_format.specs.Checks.{strings_named}
use Rattle.story_format.proofs.checks.strings_named.Given as goal

abbrev pub invariant-loop-entry : goal.invariant-loop-entry
invariant-loop-entry l = l.numbers.items ≡ flat_map strings_named (take l.entry-index l.entries)
