-- What an instruction of a test or a description does, it does in a body.
use Rattle.std.proofs.Common.{◌≡◌, ap, ℕ, suc, ◌≤◌, ◌+◌, List, [], ◌∷◌, length, refl, arith}
use Rattle.std.specs.Prelude.{map}
use Rattle.play_meaning.specs.Grounds.{Fixed, said_by_code}
use Rattle.play_meaning.specs.Worlds.{World}
use Rattle.play_meaning.specs.declared.action.ActionNow.{ActionNow}
use Rattle.play_meaning.specs.declared.instruction.Instruction.{Instruction}
use Rattle.story_code.specs.Runs.{Describes, Standing, code_told, codes_of}
use Rattle.story_code.specs.Soundness.{Judged}

pub many : (judged : List Judged) → length (map code_told judged) ≡ length judged
many [] = refl
many (j ∷ judged) = ap suc (many judged)

-- objects are described by their codes
abbrev pub by_code : Fixed → List Judged → Describes
by_code fixed judged = λ o now w. said_by_code (codes_of fixed judged) fixed.setting now w (fixed.descriptions o)

module _ (fixed : Fixed) (judged : List Judged) (now : ActionNow) (w : World) (i : Instruction) (s t : Standing) (text said : List ℕ) where
  deep : (n : ℕ) → length judged ≤ n + suc (length (map code_told judged))
  deep n = omega (arith, many judged)
