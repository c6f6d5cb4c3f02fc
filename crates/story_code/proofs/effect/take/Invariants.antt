use Rattle.std.proofs.Common.{◌≡◌, length}
use Rattle.play_meaning.specs.Operands.{below}
use Rattle.story_code.proofs.effect.take.Given as goal

abbrev pub invariant-loop-rest : goal.invariant-loop-rest
invariant-loop-rest l = below l.rest l.operands ≡ below l.fn.wanted l.initial.operands

abbrev pub decreases-loop-rest : goal.decreases-loop-rest
decreases-loop-rest l = length l.rest
