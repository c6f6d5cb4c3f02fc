-- Which rulebook words name (*Writing with Inform*, chapter 19): a built-in one, or else the author's.
use Rattle.std.specs.Prelude.{◌≡◌, ℕ, ◌+◌, ◌<◌, Bool, true, ◌&&◌, List, [], ◌∷◌, Option, Some, None, codes, if◌then◌else◌}
use Rattle.std.specs.List.{list_any, slice_get}
use Rattle.world_meaning.specs.Spelling.{is_spelled}
use Rattle.play_meaning.specs.Consulting.{after_book, before_book, carry_out_book, check_book, every_turn_book, instead_book, report_book}
use Rattle.play_meaning.specs.Turns.{begins_book}
use Rattle.i7_conditions.specs.Readings.{FirstOf}
use Rattle.i7_conditions.specs.Words.{Word, key_of}
use Rattle.i7_actions.specs.Parts.{is_name}
use Rattle.i7_actions.specs.declared.action.Action.{Action}

-- ---- the built-in rulebooks

unfoldable pub book_of_word : Word → Option ℕ
book_of_word word =
    if is_spelled word (codes "before") then Some before_book
    else (if is_spelled word (codes "instead") then Some instead_book else (if is_spelled word (codes "after") then Some after_book else None))

unfoldable pub is_every_turn : Word → Word → Bool
is_every_turn first second = is_spelled first (codes "every") && is_spelled second (codes "turn")

abbrev pub book_alone : List Word → Option ℕ
book_alone [] = None
book_alone (word ∷ []) = book_of_word word
book_alone (first ∷ second ∷ []) = if is_every_turn first second then Some every_turn_book else None
book_alone (first ∷ second ∷ third ∷ words) = None

abbrev pub behind_carry : List Word → Option (ℕ × List Word)
behind_carry [] = None
behind_carry (word ∷ rest) = if is_spelled word (codes "out") then Some (carry_out_book, rest) else None

unfoldable pub stage_by : Word → List Word → Option (ℕ × List Word)
stage_by word rest =
    if is_spelled word (codes "check") then Some (check_book, rest)
    else (if is_spelled word (codes "report") then Some (report_book, rest) else (if is_spelled word (codes "carry") then behind_carry rest else None))

-- the stage of actions with which words begin, and the words behind it
abbrev pub stage_at : List Word → Option (ℕ × List Word)
stage_at [] = None
stage_at (word ∷ rest) = stage_by word rest

abbrev pub is_action : List Action → List Word → Bool
is_action actions words = list_any (λ action. is_name action.name words) actions

abbrev pub IsAlone : List Word → ℕ → Type 0
IsAlone words book = book_alone words ≡ Some book

-- all actions share the rulebook of a stage
abbrev pub IsStage : List Action → List Word → ℕ → Type 0
IsStage actions words book = (parts : ℕ × List Word) × (stage_at words ≡ Some parts) × ((is_action actions parts.1 ≡ true) × (book ≡ parts.0))

-- ---- the author's

-- behind the two rulebooks of each scene
abbrev pub first_own : ℕ → ℕ
first_own scenes = begins_book scenes

-- the first that is named so
pub record IsOwn (rulebooks : List (List ℕ)) (scenes : ℕ) (words : List Word) (book : ℕ) : Type 0 where
  pub k : ℕ
  pub name : List ℕ
  pub at : slice_get rulebooks k ≡ Some name
  pub named : is_spelled (key_of words) name ≡ true
  pub first : (m : ℕ) (other : List ℕ) → m < k → slice_get rulebooks m ≡ Some other → is_spelled (key_of words) other ≡ true → ⊥
  pub numbered : book ≡ first_own scenes + k

abbrev pub IsOwnFound : List (List ℕ) → ℕ → List Word → Option ℕ → Type 0
IsOwnFound rulebooks scenes words (Some book) = IsOwn rulebooks scenes words book
IsOwnFound rulebooks scenes words None = (book : ℕ) → IsOwn rulebooks scenes words book → ⊥

-- ---- all

abbrev pub IsFollowed : List Action → List (List ℕ) → ℕ → List Word → ℕ → Type 0
IsFollowed actions rulebooks scenes words = FirstOf (IsAlone words) (FirstOf (IsStage actions words) (IsOwn rulebooks scenes words))

abbrev pub IsBookFound : List Action → List (List ℕ) → ℕ → List Word → Option ℕ → Type 0
IsBookFound actions rulebooks scenes words (Some book) = IsFollowed actions rulebooks scenes words book
IsBookFound actions rulebooks scenes words None = (book : ℕ) → IsFollowed actions rulebooks scenes words book → ⊥
