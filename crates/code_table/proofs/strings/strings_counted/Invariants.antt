use Rattle.std.proofs.Common.{◌≡◌, length}
use Rattle.std.specs.Prelude.{map}
use Rattle.story_code.specs.Runs.{code_told}
use Rattle.code_table.specs.Strings.{counted_on, strings_of}
use Rattle.code_table.proofs.strings.strings_counted.Given as goal

abbrev pub invariant-loop-rest : goal.invariant-loop-rest
invariant-loop-rest l = counted_on l.count (strings_of (map code_told l.rest)) ≡ counted_on l.fn.next (strings_of (map code_told l.fn.codes))

abbrev pub decreases-loop-rest : goal.decreases-loop-rest
decreases-loop-rest l = length l.rest
