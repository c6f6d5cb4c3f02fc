use Rattle.std.proofs.Common.{◌≡◌, ◌++◌, [], length}
use Rattle.i7_claims.specs.Claims.{declares_from}
use Rattle.i7_claims.proofs.declaring.declares_of.Given as goal

abbrev pub invariant-loop-rest : goal.invariant-loop-rest
invariant-loop-rest l = l.claims.items ++ declares_from l.kinds l.rest ≡ declares_from [] l.sentences

abbrev pub decreases-loop-rest : goal.decreases-loop-rest
decreases-loop-rest l = length l.rest
