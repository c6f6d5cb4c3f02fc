-- Which item of a list is the first that shows something together with those before it, and which line is the lowest.
use Rattle.std.specs.Prelude.{◌≡◌, ℕ, List, ◌∷◌, ◌++◌, Option, Some, None}
use Rattle.i7_lexer.specs.Rising.{LinesRise}
use Rattle.i7_claims.specs.Scans.{IsLowest}

-- one of these items shows it, by what stands before the item
pub record IsShown {A : Type 0} (Here : List A → A → Type 0) (items : List A) : Type 0 where
  pub before : List A
  pub item : A
  pub after : List A
  pub split : items ≡ before ++ item ∷ after
  pub here : Here before item

-- the line of the first item that shows it: none before that item does
pub record IsFirstLine {A : Type 0} (line_of : A → ℕ) (Here : List A → A → Type 0) (items : List A) (line : ℕ) : Type 0 where
  pub first : IsShown Here items
  pub none_before : IsShown Here first.before → ⊥
  pub on : line ≡ line_of first.item

-- that line, or none where no item shows it
abbrev pub IsFirst : {A : Type 0} → (A → ℕ) → (List A → A → Type 0) → List A → Option ℕ → Type 0
IsFirst line_of Here items None = IsShown Here items → ⊥
IsFirst line_of Here items (Some line) = IsFirstLine line_of Here items line

-- an item on this line shows it
abbrev pub IsShownAt : {A : Type 0} → (A → ℕ) → (List A → A → Type 0) → List A → ℕ → Type 0
IsShownAt line_of Here items line = (shown : IsShown Here items) × (line ≡ line_of shown.item)

-- the line is that of the first item that shows it, and the lowest at which one does where lines rise
pub record IsFound {A : Type 0} (line_of : A → ℕ) (Here : List A → A → Type 0) (items : List A) (line : Option ℕ) : Type 0 where
  pub first : IsFirst line_of Here items line
  pub lowest : LinesRise line_of items → IsLowest (IsShownAt line_of Here items) line
