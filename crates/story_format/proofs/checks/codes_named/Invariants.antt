use Rattle.std.proofs.Common.{◌≡◌, take}
use Rattle.story_format.specs.Checks.{codes_named}
use Rattle.story_format.proofs.checks.codes_named.Given as goal

abbrev pub invariant-loop-entry : goal.invariant-loop-entry
invariant-loop-entry l = l.numbers.items ≡ codes_named (take l.entry-index l.entries)
