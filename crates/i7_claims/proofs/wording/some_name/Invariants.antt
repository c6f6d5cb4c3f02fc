use Rattle.std.proofs.Common.{◌≡◌, [], length}
use Rattle.i7_claims.specs.NameScans.{standing_at}
use Rattle.i7_claims.specs.Wording.{some_name}
use Rattle.i7_claims.proofs.wording.some_name.Given as goal

abbrev pub invariant-loop-rest : goal.invariant-loop-rest
invariant-loop-rest l =
    some_name (standing_at l.known) l.is_joined l.column l.front.items l.rest ≡ some_name (standing_at l.known) l.is_joined l.column [] l.words

abbrev pub decreases-loop-rest : goal.decreases-loop-rest
decreases-loop-rest l = length l.rest
