-- The lowest of lines.
use Rattle.std.specs.Prelude.{◌≡◌, ℕ, ◌≤◌, nat_lt, List, [], ◌∷◌, ◌++◌, Option, Some, None, if◌then◌else◌}
use Rattle.std.specs.List.{All}

-- the lower of two lines, if there are both
abbrev pub lower_of : Option ℕ → Option ℕ → Option ℕ
lower_of None second = second
lower_of (Some first) None = Some first
lower_of (Some first) (Some second) = if nat_lt second first then Some second else Some first

-- the lowest of the lines that are told of these
abbrev pub lowest : {X : Type 0} → (X → Option ℕ) → List X → Option ℕ
lowest line_at [] = None
lowest line_at (x ∷ xs) = lower_of (line_at x) (lowest line_at xs)

-- none of these is bad at any line
abbrev pub IsNowhere : {X : Type 0} → (X → ℕ → Type 0) → List X → Type 0
IsNowhere Bad xs = All (λ x. (line : ℕ) → Bad x line → ⊥) xs

-- one of these is bad at that line, and none at a lower one
pub record IsLowest {X : Type 0} (Bad : X → ℕ → Type 0) (xs : List X) (line : ℕ) : Type 0 where
  pub before : List X
  pub bad : X
  pub behind : List X
  pub place : xs ≡ before ++ bad ∷ behind
  pub is_bad : Bad bad line
  pub lowest : All (λ other. (at : ℕ) → Bad other at → line ≤ at) xs
