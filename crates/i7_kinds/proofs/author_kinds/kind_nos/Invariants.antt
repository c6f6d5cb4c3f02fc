use Rattle.std.proofs.Common.{◌≡◌, ◌++◌, length}
use Rattle.i7_kinds.specs.KindClaims.{AreSmallKinds}
use Rattle.i7_kinds.proofs.author_kinds.kind_nos.Given as goal

abbrev pub invariant-loop-rest : goal.invariant-loop-rest
invariant-loop-rest l = (l.kinds.items ++ l.rest ≡ l.parents) × AreSmallKinds l.rest

abbrev pub decreases-loop-rest : goal.decreases-loop-rest
decreases-loop-rest l = length l.rest
