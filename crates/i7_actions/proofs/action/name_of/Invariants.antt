use Rattle.std.proofs.Common.{◌≡◌, ◌++◌, map, length}
use Rattle.i7_actions.proofs.action.name_of.Given as goal

abbrev pub invariant-loop-rest : goal.invariant-loop-rest
invariant-loop-rest l = l.words.items ++ map (λ word. word.now) l.rest ≡ map (λ word. word.now) l.name

abbrev pub decreases-loop-rest : goal.decreases-loop-rest
decreases-loop-rest l = length l.rest
