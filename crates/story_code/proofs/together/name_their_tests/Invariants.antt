use Rattle.std.proofs.Common.{◌≡◌, length}
use Rattle.story_code.specs.Fronts.{code_in}
use Rattle.story_code.specs.Together.{name_their_tests}
use Rattle.story_code.proofs.together.name_their_tests.Given as goal

abbrev pub invariant-loop-instruction : goal.invariant-loop-instruction
invariant-loop-instruction l = name_their_tests l.codes (code_in l.rest) ≡ name_their_tests l.codes (code_in l.fn.bytes)

abbrev pub decreases-loop-instruction : goal.decreases-loop-instruction
decreases-loop-instruction l = length l.rest
