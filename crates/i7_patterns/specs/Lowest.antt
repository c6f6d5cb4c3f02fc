-- The lowest number at which there is something, and the search for it from the left.
use Rattle.std.specs.Prelude.{ℕ, ◌+◌, ◌<◌, List, [], ◌∷◌, Option}
use Rattle.std.specs.Option.{option_or}
use Rattle.i7_conditions.specs.Words.{Word}

pub record IsLowest {A : Type 0} (Stands : ℕ → A → Type 0) (x : A) : Type 0 where
  pub n : ℕ
  pub stands : Stands n x
  pub lowest : (m : ℕ) → m < n → (y : A) → Stands m y → ⊥

-- what is there with n words in front, or with more, where these words are left
abbrev pub lowest_from : {A : Type 0} → (ℕ → List Word → Option A) → ℕ → List Word → Option A
lowest_from at n [] = at n []
lowest_from at n (word ∷ rest) = option_or (at n (word ∷ rest)) (lowest_from at (n + 1) rest)
