use Rattle.std.proofs.Common.{◌≡◌, length}
use Rattle.i7_phrases.specs.Around.{around_of, left}
use Rattle.i7_phrases.proofs.around.Around.leave.Given as goal

abbrev pub invariant-loop-self : goal.invariant-loop-self
invariant-loop-self l = left l.depth (around_of l.self) ≡ left l.depth (around_of l.fn.self)

abbrev pub decreases-loop-self : goal.decreases-loop-self
decreases-loop-self l = length l.self.depths.items
