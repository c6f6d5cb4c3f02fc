use Rattle.std.proofs.Common.{◌≡◌, ◌++◌, map, length}
use Rattle.i7_actions.proofs.action.actions_of.Given as goal

abbrev pub invariant-loop-rest : goal.invariant-loop-rest
invariant-loop-rest l = l.actions.items ++ map (λ row. record { name = map (λ word. word.now) row.0.now; nouns = row.1 }) l.rest ≡ map (λ row. record { name = map (λ word. word.now) row.0.now; nouns = row.1 }) l.rows

abbrev pub decreases-loop-rest : goal.decreases-loop-rest
decreases-loop-rest l = length l.rest
