-- Choices while they are emitted: each branch with jumps that are aimed when the choice is whole.
use Rattle.std.specs.Prelude.{ℕ, List, [], ◌∷◌, ◌++◌}
use Rattle.play_meaning.specs.Meant.{body_meant, condition_meant}
use Rattle.play_meaning.specs.Translation.{body_part, condition_part, one}
use Rattle.play_meaning.specs.declared.instruction.Instruction.TheVariants.{IfZero, Jump}
use Rattle.play_meaning.specs.declared.tree.phrase.Branch.{Branch}
use Rattle.story_code.specs.Emitting.{Emitting, aimed, count_in, emitted, place_in}
use Rattle.story_code.specs.declared.emitting.phrase.Leap.{Leap}

-- what was emitted so far, and the jumps of the branches among it
pub record Choosing : Type 0 where
  pub out : Emitting
  pub leaps : List Leap

abbrev pub choosing : Emitting → List Leap → Choosing
choosing out leaps = record { out = out; leaps = leaps }

-- the condition of a branch; then its phrases, behind the jump past them; then the jump behind them
abbrev pub asked : ℕ → Branch → Emitting → Emitting
asked k branch s = emitted s (condition_part k (condition_meant branch.condition))

abbrev pub done : (List ℕ → ℕ) → ℕ → Branch → Emitting → Emitting
done string k branch s = emitted (emitted (asked k branch s) (one (IfZero 0))) (body_part string k (body_meant branch.phrases.items))

abbrev pub leapt : (List ℕ → ℕ) → ℕ → Branch → Emitting → Emitting
leapt string k branch s = emitted (done string k branch s) (one (Jump 0))

abbrev pub leap_of : (List ℕ → ℕ) → ℕ → Branch → Emitting → Leap
leap_of string k branch s = record {
  past = count_in (asked k branch s).kept;
  next = place_in (leapt string k branch s).kept;
  last = count_in (done string k branch s).kept;
}

unfoldable pub branch_emitted : (List ℕ → ℕ) → ℕ → Choosing → Branch → Choosing
branch_emitted string k c branch = choosing (leapt string k branch c.out) (c.leaps ++ leap_of string k branch c.out ∷ [])

abbrev pub branches_emitted : (List ℕ → ℕ) → ℕ → Choosing → List Branch → Choosing
branches_emitted string k c [] = c
branches_emitted string k c (branch ∷ branches) = branches_emitted string k (branch_emitted string k c branch) branches

-- the jumps aimed, those of the last branch first, where the choice ends at this place
abbrev pub landed : ℕ → List Leap → Emitting → Emitting
landed end [] s = s
landed end (leap ∷ leaps) s = aimed leap.last end (aimed leap.past leap.next (landed end leaps s))
