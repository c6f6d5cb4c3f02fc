use Rattle.story_code.proofs.TestsNamed.{AreSoBelow}
use Rattle.story_code.proofs.together.are_sound_together.Given as goal

abbrev pub invariant-loop-number : goal.invariant-loop-number
invariant-loop-number l = AreSoBelow l.codes l.number
