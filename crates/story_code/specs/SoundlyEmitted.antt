-- What is emitted soundly: a code that is sound, and the tests that it names, in turn, each sound for its own use.
use Rattle.std.specs.Prelude.{◌≡◌, ℕ, ◌+◌, ◌<◌, ◌≤◌, List, [], ◌∷◌, length, Option, None, Some, slice_get}
use Rattle.play_meaning.specs.declared.operand.Counts.{Counts}
use Rattle.play_meaning.specs.declared.operand.Use.{Use}
use Rattle.play_meaning.specs.declared.operand.Use.TheVariants.{Test}
use Rattle.play_meaning.specs.SoundCodes.{IsSound}
use Rattle.play_meaning.specs.Translation.{Emitted}
use Rattle.play_meaning.specs.declared.instruction.Instruction.{Instruction}
use Rattle.story_code.specs.Runs.{IsOneOf, test_named}
use Rattle.story_code.specs.Soundness.{IsSoundCode, Judged}
use Rattle.story_code.specs.declared.sizes.Sizes.{Sizes}

-- an instruction that names a test names the next of these, by its number, inside the loop that it is named with
abbrev pub NamesNext : {A : Type 0} → (ℕ → ℕ → A → Type 0) → (ℕ → List A → Type 0) → ℕ → Option (ℕ × ℕ) → List A → Type 0
NamesNext is_test later n None tests = later n tests
NamesNext is_test later n (Some named) [] = ⊥
NamesNext is_test later n (Some named) (test ∷ tests) = (named.1 ≡ n) × (is_test n (named.0 + 1) test × later (n + 1) tests)

-- the instructions of a code name these tests in turn, each once, the first by this number
abbrev pub NameInTurn : {A : Type 0} → (ℕ → ℕ → A → Type 0) → List Instruction → ℕ → List A → Type 0
NameInTurn is_test [] n tests = tests ≡ []
NameInTurn is_test (i ∷ is) n tests = NamesNext is_test (λ m more. NameInTurn is_test is m more) n (test_named i) tests

-- a code that names no test
abbrev pub NamesNone : List Instruction → Type 0
NamesNone [] = Unit {0}
NamesNone (i ∷ is) = (test_named i ≡ None) × NamesNone is

-- a test that is sound inside so many loops, judged as the code of this number, and names none itself
abbrev pub IsSoundTest : Counts → ℕ → ℕ → List Instruction → Type 0
IsSoundTest z n loops test = IsSound (record z { own = n }) (Test loops) test × NamesNone test

-- the numbers of tests come behind the code's own, and are numbers of codes
pub record AreNumbered (z : Counts) (first : ℕ) (tests : List (List Instruction)) : Type 0 where
  pub behind : z.own < first
  pub there : first + length tests ≤ z.codes

-- judged by what there is, for its use, with its first test by this number
pub record IsSoundlyEmitted (z : Counts) (role : Use) (first : ℕ) (e : Emitted) : Type 0 where
  pub code : IsSound z role e.code
  pub tests : NameInTurn (IsSoundTest z) e.code first e.tests

-- ---- their bytes

-- judged as the code of this number
abbrev pub sizes_as : Counts → Use → ℕ → Sizes
sizes_as z role n = record { counts = record z { own = n }; role = role }

-- the bytes of such a test
abbrev pub IsSoundTestCode : Counts → ℕ → ℕ → List ℕ → Type 0
IsSoundTestCode z n loops bytes = (sound : IsSoundCode (sizes_as z (Test loops) n) bytes) × NamesNone sound.code

-- the bytes of a sound code, and behind them those of the tests that it names
abbrev pub AreSoundCodes : Counts → Use → ℕ → List (List ℕ) → Type 0
AreSoundCodes z role first [] = ⊥
AreSoundCodes z role first (bytes ∷ tests) = (sound : IsSoundCode (sizes_as z role z.own) bytes) × NameInTurn (IsSoundTestCode z) sound.code first tests

-- of so many codes, judged as one by this number
abbrev pub among : Counts → ℕ → ℕ → Counts
among z own codes = record z { own = own; codes = codes }

-- they are sound codes by whatever number, and among however many, as long as the tests have numbers of codes behind it
abbrev pub AreSoundAnywhere : Counts → Use → ℕ → Emitted → List (List ℕ) → Type 0
AreSoundAnywhere z role first e bytes = (own codes : ℕ) → AreNumbered (among z own codes) first e.tests → AreSoundCodes (among z own codes) role first bytes

-- ---- among the codes of a story

-- the story's code of this number has these bytes, and is judged so
abbrev pub IsPlaced : List Judged → Counts → Use → ℕ → List ℕ → Type 0
IsPlaced judged z role n bytes = slice_get judged n ≡ Some (record { sizes = sizes_as z role n; bytes = bytes })

-- a code and its tests stand among the codes of a story, each by its number
pub record ArePlaced (judged : List Judged) (z : Counts) (role : Use) (first : ℕ) (code : List Instruction) (bytes : List ℕ) (tests : List (List ℕ)) : Type 0 where
  pub few : z.objects < 65536
  pub all : z.codes ≡ length judged
  pub own : IsPlaced judged z role z.own bytes
  pub named : NameInTurn (λ n loops test. IsPlaced judged z (Test loops) n test) code first tests

-- a code with these bytes stands rightly by this number
abbrev pub StandsRightly : List Judged → Counts → Use → ℕ → List ℕ → Type 0
StandsRightly judged z role n bytes = IsOneOf judged n (record { sizes = sizes_as z role n; bytes = bytes })
