use Rattle.std.proofs.Common.{ℕ, List, ◌∷◌, ◌++◌, length}
use Rattle.story_code.specs.Emits.{AreSpelled}
use Rattle.story_code.proofs.emit.spell_all.Given as goal

abbrev pub invariant-loop-rest : goal.invariant-loop-rest
invariant-loop-rest l = (bytes : List (List ℕ)) → AreSpelled bytes l.rest → AreSpelled (l.all.items ++ bytes) (l.fn.code ∷ l.fn.tests)

abbrev pub decreases-loop-rest : goal.decreases-loop-rest
decreases-loop-rest l = length l.rest
