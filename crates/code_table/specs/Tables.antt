-- A table of codes: each is named once, the one behind the other, and is sound for the use for which it is named. Those that
-- other tables name stand in front, behind them those that code 0 names in its order, then those that code 1 names, and so on.
use Rattle.std.specs.Prelude.{◌≡◌, ℕ, ◌+◌, List, [], ◌∷◌, ◌++◌, length, map}
use Rattle.std.specs.List.{AllByRecursion, flat_map, range_with_len}
use Rattle.play_meaning.specs.TranslatedScripts.{in_list}
use Rattle.play_meaning.specs.declared.instruction.Instruction.{Instruction}
use Rattle.play_meaning.specs.declared.operand.Counts.{Counts}
use Rattle.play_meaning.specs.declared.operand.Use.{Use}
use Rattle.play_meaning.specs.declared.operand.Use.TheVariants.{Test}
use Rattle.story_code.specs.Runs.{code_told, test_named}
use Rattle.story_code.specs.Soundness.{IsSoundCode, Judged}
use Rattle.story_code.specs.SoundlyEmitted.{sizes_as}
use Rattle.story_code.specs.declared.sizes.Sizes.{Sizes}

-- the tests that a code names, in order: of each the number of the loop that it is inside, innermost, and its own
abbrev pub tests_in : List Instruction → List (ℕ × ℕ)
tests_in code = flat_map (λ i. in_list (test_named i)) code

abbrev pub tests_of : List (List Instruction) → List (ℕ × ℕ)
tests_of codes = flat_map tests_in codes

-- what it is for
abbrev pub use_of : ℕ × ℕ → Use
use_of named = Test (named.0 + 1)

-- what codes are for, by number
abbrev pub uses_of : List Use → List (List Instruction) → List Use
uses_of heads codes = heads ++ map use_of (tests_of codes)

-- what codes are judged by that are for these uses, the first having this number
abbrev pub sizes_from : Counts → ℕ → List Use → List Sizes
sizes_from z n [] = []
sizes_from z n (role ∷ uses) = sizes_as z role n ∷ sizes_from z (n + 1) uses

-- these bytes are a table of codes, of which other tables name the first for these uses, and the codes are judged so
pub record IsTableOf (z : Counts) (heads : List Use) (codes : List (List ℕ)) (judged : List Judged) : Type 0 where
  pub bytes : map (λ j. j.bytes) judged ≡ codes
  pub all : z.codes ≡ length codes
  -- there are as many as are named, each for its use by its number
  pub sizes : map (λ j. j.sizes) judged ≡ sizes_from z 0 (uses_of heads (map code_told judged))
  -- each test is named by the next number
  pub in_turn : map (λ named. named.1) (tests_of (map code_told judged)) ≡ range_with_len (length heads) (length (tests_of (map code_told judged)))
  pub sound : AllByRecursion (λ j. IsSoundCode j.sizes j.bytes) judged

-- they are none
abbrev pub AreNoTable : Counts → List Use → List (List ℕ) → Type 0
AreNoTable z heads codes = (judged : List Judged) → IsTableOf z heads codes judged → ⊥
