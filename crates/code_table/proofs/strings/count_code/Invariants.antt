use Rattle.std.proofs.Common.{◌≡◌, length}
use Rattle.story_code.specs.Fronts.{code_in}
use Rattle.code_table.specs.Growing.{count_code}
use Rattle.code_table.proofs.strings.count_code.Given as goal

abbrev pub invariant-loop-instruction : goal.invariant-loop-instruction
invariant-loop-instruction l = count_code l.count (code_in l.rest) ≡ count_code l.fn.next (code_in l.fn.code)

abbrev pub decreases-loop-instruction : goal.decreases-loop-instruction
decreases-loop-instruction l = length l.rest
