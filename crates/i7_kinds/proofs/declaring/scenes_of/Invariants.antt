use Rattle.std.proofs.Common.{◌≡◌, ◌++◌, length, map}
use Rattle.i7_kinds.specs.KindClaims.{scenes_of}
use Rattle.i7_kinds.proofs.declaring.scenes_of.Given as goal

abbrev pub invariant-loop-rest : goal.invariant-loop-rest
invariant-loop-rest l = l.scenes.items ++ scenes_of l.claims (map (λ name. name.items) l.rest) ≡ scenes_of l.claims (map (λ name. name.items) l.names)

abbrev pub decreases-loop-rest : goal.decreases-loop-rest
decreases-loop-rest l = length l.rest
