-- Whether lines rise.
use Rattle.std.specs.Prelude.{◌≡◌, ℕ, ◌≤◌, List, ◌∷◌, ◌++◌}

-- no item is on a lower line than one before it
abbrev pub LinesRise : {A : Type 0} → (A → ℕ) → List A → Type 0
LinesRise {A} line_of items = (before between after : List A) (a b : A) → items ≡ before ++ a ∷ (between ++ b ∷ after) → line_of a ≤ line_of b
