use Rattle.std.proofs.Common.{◌≡◌, length}
use Rattle.std.specs.Prelude.{fold}
use Rattle.i7_kinds.specs.KindClaims.{parents_of, with_parent_of}
use Rattle.i7_kinds.proofs.author_kinds.parents_of.Given as goal

abbrev pub invariant-loop-rest : goal.invariant-loop-rest
invariant-loop-rest l = fold (with_parent_of l.names) l.parents.items l.rest ≡ parents_of l.names l.claims

abbrev pub decreases-loop-rest : goal.decreases-loop-rest
decreases-loop-rest l = length l.rest
