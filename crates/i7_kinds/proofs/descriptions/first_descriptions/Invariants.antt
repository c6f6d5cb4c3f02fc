use Rattle.std.proofs.Common.{◌≡◌, ℕ, length}
use Rattle.i7_kinds.specs.Demands.{description_of}
use Rattle.i7_claims.specs.Firsts.{first_of}
use Rattle.i7_kinds.specs.Views.{text_at}
use Rattle.i7_kinds.proofs.descriptions.first_descriptions.Given as goal

abbrev pub invariant-loop-rest : goal.invariant-loop-rest
invariant-loop-rest l = (object : ℕ) → first_of (text_at l.firsts object) (description_of l.rest object) ≡ description_of l.descriptions object

abbrev pub decreases-loop-rest : goal.decreases-loop-rest
decreases-loop-rest l = length l.rest
