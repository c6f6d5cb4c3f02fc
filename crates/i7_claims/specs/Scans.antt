-- Which lines show something, and the scan from left to right that finds the lowest.
use Rattle.std.specs.Prelude.{◌≡◌, ℕ, ◌≤◌, Bool, true, false, min, List, [], ◌∷◌, ◌++◌, Option, Some, None}
use Rattle.i7_claims.specs.declared.claim.Claim.{Claim}

-- a claim on the line shows it, by what stands before the claim
pub record ShownBy (Here : List Claim → Claim → Type 0) (claims : List Claim) (line : ℕ) : Type 0 where
  pub before : List Claim
  pub claim : Claim
  pub after : List Claim
  pub split : claims ≡ before ++ claim ∷ after
  pub here : Here before claim
  pub on : line ≡ claim.line

-- no line at all, or the lowest of those
abbrev pub IsLowest : (ℕ → Type 0) → Option ℕ → Type 0
IsLowest Shown None = (line : ℕ) → Shown line → ⊥
IsLowest Shown (Some l) = Shown l × ((line : ℕ) → Shown line → l ≤ line)

-- the lowest line so far, with this one if it shows something
abbrev pub lower : Bool → ℕ → Option ℕ → Option ℕ
lower false line found = found
lower true line None = Some line
lower true line (Some other) = Some (min other line)

-- the lowest line of the claims that show it, by the state that the claims before each left
abbrev pub lowest : {S : Type 0} → (S → Claim → Bool) → (S → Claim → S) → S → List Claim → Option ℕ → Option ℕ
lowest shows next state [] found = found
lowest shows next state (c ∷ cs) found = lowest shows next (next state c) cs (lower (shows state c) c.line found)

-- the lower of two lines
abbrev pub earlier : Option ℕ → Option ℕ → Option ℕ
earlier None other = other
earlier (Some a) None = Some a
earlier (Some a) (Some b) = Some (min a b)
