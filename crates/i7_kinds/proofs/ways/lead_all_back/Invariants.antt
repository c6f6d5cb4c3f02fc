use Rattle.std.proofs.Common.{◌≡◌, ℕ, length}
use Rattle.i7_kinds.specs.Demands.{first_target, implied_leads}
use Rattle.i7_claims.specs.Firsts.{first_of}
use Rattle.i7_kinds.specs.Views.{target_at}
use Rattle.i7_kinds.proofs.ways.lead_all_back.Given as goal

abbrev pub invariant-loop-rest : goal.invariant-loop-rest
invariant-loop-rest l = (room direction : ℕ) → first_of (target_at l.targets room direction) (first_target (implied_leads l.rest) room direction) ≡ first_of (target_at l.initial.targets room direction) (first_target (implied_leads l.statements) room direction)

abbrev pub decreases-loop-rest : goal.decreases-loop-rest
decreases-loop-rest l = length l.rest
