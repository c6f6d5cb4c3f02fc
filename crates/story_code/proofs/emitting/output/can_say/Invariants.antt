use Rattle.std.proofs.Common.{length}
use Rattle.story_code.proofs.Followed.{SaidSoFar}
use Rattle.story_code.proofs.emitting.output.can_say.Given as goal

abbrev pub invariant-loop-rest : goal.invariant-loop-rest
invariant-loop-rest l = SaidSoFar l.place l.rest l.fn.code

abbrev pub decreases-loop-rest : goal.decreases-loop-rest
decreases-loop-rest l = length l.rest
