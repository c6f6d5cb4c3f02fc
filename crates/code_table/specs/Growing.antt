-- How a table grows code by code, as functions and relations on lists: what the code is proved equal to.
use Rattle.std.specs.Prelude.{◌≡◌, ℕ, ◌+◌, ◌==◌, nat_lt, Bool, true, false, ◌&&◌, List, [], ◌∷◌, ◌++◌, length, Option, None, Some, slice_get, if◌then◌else◌}
use Rattle.std.specs.List.{flat_map}
use Rattle.play_meaning.specs.TranslatedScripts.{in_list}
use Rattle.play_meaning.specs.declared.instruction.Instruction.{Instruction}
use Rattle.play_meaning.specs.declared.operand.Counts.{Counts}
use Rattle.play_meaning.specs.declared.operand.Use.{Use}
use Rattle.story_code.specs.Runs.{code_told, test_named}
use Rattle.story_code.specs.Soundness.{IsSoundCode, Judged}
use Rattle.story_code.specs.SoundlyEmitted.{sizes_as}
use Rattle.code_table.specs.Strings.{counted_on, string_named}
use Rattle.code_table.specs.Tables.{tests_in, use_of}

-- what the names in a code come to, one behind the other; none where bytes spell no code
abbrev pub over_code : {S X : Type 0} → (S → List X → Option S) → (Instruction → List X) → S → Option (List Instruction) → Option S
over_code f names s None = None
over_code f names s (Some code) = f s (flat_map names code)

-- ---- uses

-- a test that is named by the next number, inside no more loops than one byte says
abbrev pub is_next : List Use → ℕ × ℕ → Bool
is_next uses named = (named.1 == length uses) && nat_lt named.0 255

-- with the uses of these tests behind, if each is the next
abbrev pub with_tests : List Use → List (ℕ × ℕ) → Option (List Use)
with_tests uses [] = Some uses
with_tests uses (named ∷ more) = if is_next uses named then with_tests (uses ++ use_of named ∷ []) more else None

abbrev pub with_test : List Use → Instruction → Option (List Use)
with_test uses i = with_tests uses (in_list (test_named i))

-- with those that a code names
abbrev pub with_code : List Use → Option (List Instruction) → Option (List Use)
with_code uses code = over_code with_tests (λ i. in_list (test_named i)) uses code

-- ---- codes

-- the code of this number has these bytes, and is sound for its use
pub record IsCodeOf (z : Counts) (uses : List Use) (n : ℕ) (bytes : List ℕ) (j : Judged) : Type 0 where
  pub role : Use
  pub named : slice_get uses n ≡ Some role
  pub judged : j ≡ record { sizes = sizes_as z role n; bytes = bytes }
  pub sound : IsSoundCode j.sizes j.bytes

-- it names the next tests, and there are so many uses with theirs
pub record IsNextOf (z : Counts) (uses : List Use) (n : ℕ) (bytes : List ℕ) (j : Judged) (more : List Use) : Type 0 where
  pub code : IsCodeOf z uses n bytes j
  pub names : with_tests uses (tests_in (code_told j)) ≡ Some more

-- a table's codes from this number on
abbrev pub IsTableFrom : Counts → List Use → ℕ → List (List ℕ) → List Judged → Type 0
IsTableFrom z uses n [] [] = n ≡ length uses
IsTableFrom z uses n [] (j ∷ judged) = ⊥
IsTableFrom z uses n (bytes ∷ codes) [] = ⊥
IsTableFrom z uses n (bytes ∷ codes) (j ∷ judged) = (more : List Use) × (IsNextOf z uses n bytes j more × IsTableFrom z more (n + 1) codes judged)

-- a code with these bytes is added behind those of a table, or none can be
abbrev pub Grows : Counts → List Use → List Judged → List ℕ → Bool → List Use → List Judged → Type 0
Grows z uses judged bytes true more next = (j : Judged) × ((next ≡ judged ++ j ∷ []) × IsNextOf z uses (length judged) bytes j more)
Grows z uses judged bytes false more next = (j : Judged) (after : List Use) → IsNextOf z uses (length judged) bytes j after → ⊥

-- ---- strings

abbrev pub count_code : ℕ → Option (List Instruction) → Option ℕ
count_code next code = over_code counted_on (λ i. in_list (string_named i)) next code
