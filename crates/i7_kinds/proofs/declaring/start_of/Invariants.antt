use Rattle.std.proofs.Common.{◌≡◌, length}
use Rattle.i7_kinds.specs.KindClaims.{start_of}
use Rattle.i7_kinds.proofs.declaring.start_of.Given as goal

abbrev pub invariant-loop-rest : goal.invariant-loop-rest
invariant-loop-rest l = start_of l.rest l.name ≡ start_of l.claims l.name

abbrev pub decreases-loop-rest : goal.decreases-loop-rest
decreases-loop-rest l = length l.rest
