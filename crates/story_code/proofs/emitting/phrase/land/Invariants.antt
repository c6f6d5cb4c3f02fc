use Rattle.std.proofs.Common.{◌≡◌, length}
use Rattle.story_code.specs.Choosing.{landed}
use Rattle.story_code.proofs.emitting.phrase.land.Given as goal

abbrev pub invariant-loop-leap : goal.invariant-loop-leap
invariant-loop-leap l = landed l.end l.rest l.out ≡ landed l.end l.fn.leaps l.fn.out

abbrev pub decreases-loop-leap : goal.decreases-loop-leap
decreases-loop-leap l = length l.rest
