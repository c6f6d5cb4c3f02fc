use Rattle.std.proofs.Common.{◌≡◌, length}
use Rattle.std.specs.Prelude.{fold}
use Rattle.i7_claims.specs.Sorts.{with_claimed}
use Rattle.i7_claims.proofs.sorts.add_names.Given as goal

abbrev pub invariant-loop-rest : goal.invariant-loop-rest
invariant-loop-rest l = fold (with_claimed l.sort) l.names l.rest ≡ fold (with_claimed l.sort) l.initial.names l.claims

abbrev pub decreases-loop-rest : goal.decreases-loop-rest
decreases-loop-rest l = length l.rest
