use Rattle.std.proofs.Common.{◌≡◌, [], length}
use Rattle.i7_conditions.specs.Fronts.{follow}
use Rattle.i7_conditions.proofs.front.follow.Given as goal

abbrev pub invariant-loop-rest : goal.invariant-loop-rest
invariant-loop-rest l = follow l.column l.skipped l.adjectives.items l.rest ≡ follow l.column 0 [] l.words

abbrev pub decreases-loop-rest : goal.decreases-loop-rest
decreases-loop-rest l = length l.rest
