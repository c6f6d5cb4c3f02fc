use Rattle.std.proofs.Common.{◌≡◌, length}
use Rattle.play_meaning.specs.Translation.{these}
use Rattle.story_code.specs.Emitting.{emitted}
use Rattle.story_code.proofs.emitting.output.Output.append.Given as goal

abbrev pub invariant-loop-rest : goal.invariant-loop-rest
invariant-loop-rest l = emitted l.self (these l.rest) ≡ emitted l.fn.self (these l.fn.more)

abbrev pub decreases-loop-rest : goal.decreases-loop-rest
decreases-loop-rest l = length l.rest
