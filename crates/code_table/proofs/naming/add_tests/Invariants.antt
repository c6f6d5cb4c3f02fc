use Rattle.std.proofs.Common.{◌≡◌, length}
use Rattle.story_code.specs.Fronts.{code_in}
use Rattle.code_table.specs.Growing.{with_code}
use Rattle.code_table.proofs.naming.add_tests.Given as goal

abbrev pub invariant-loop-instruction : goal.invariant-loop-instruction
invariant-loop-instruction l = with_code l.uses.items (code_in l.rest) ≡ with_code l.fn.uses.items (code_in l.fn.code)

abbrev pub decreases-loop-instruction : goal.decreases-loop-instruction
decreases-loop-instruction l = length l.rest
