use Rattle.std.proofs.Common.{length}
use Rattle.i7_phrases.specs.Around.{around_of}
use Rattle.i7_rules.specs.Knowns.{known_of}
use Rattle.i7_rules.specs.ReadSoFar.{state_of}
use Rattle.i7_rules.proofs.ReadOn.{IsReadTo}
use Rattle.i7_rules.proofs.body.body_of.Given as goal

abbrev pub invariant-loop-rest : goal.invariant-loop-rest
invariant-loop-rest l = IsReadTo (known_of l.known) l.phrases l.rest (around_of l.around) (state_of l.so_far)

abbrev pub decreases-loop-rest : goal.decreases-loop-rest
decreases-loop-rest l = length l.rest
