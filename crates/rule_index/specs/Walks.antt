-- What a walk over a list of rules finds from a place on: the first that passes a test.
use Rattle.std.specs.Prelude.{◌≡◌, ℕ, ◌≤◌, ◌<◌, Bool, true, false, List, MatchOption, Option, None, Some, slice_get, if◌then◌else◌}

abbrev pub passing : (ℕ → Bool) → Option ℕ → Option ℕ
passing passes None = None
passing passes (Some rule) = if passes rule then Some rule else None

-- no rule at a place from the first up to the second, which is left out, passes
abbrev pub NonePasses : (ℕ → Bool) → List ℕ → (from upto : ℕ) → Type 0
NonePasses passes rules from upto = (place rule : ℕ) → from ≤ place → place < upto → slice_get rules place ≡ Some rule → passes rule ≡ false

-- nor does any from this place on
abbrev pub NoneIsLeft : (ℕ → Bool) → List ℕ → (from : ℕ) → Type 0
NoneIsLeft passes rules from = (place rule : ℕ) → from ≤ place → slice_get rules place ≡ Some rule → passes rule ≡ false

-- the rule at this place is the first that passes, from a place on
pub record IsFirstFrom (passes : ℕ → Bool) (rules : List ℕ) (from place rule : ℕ) : Type 0 where
  pub behind : from ≤ place
  pub there : slice_get rules place ≡ Some rule
  pub passing : passes rule ≡ true
  pub others : NonePasses passes rules from place

-- what a walk from a place on finds: the first that passes, and its place, or nothing where none does
abbrev pub FindsFirst : (ℕ → Bool) → List ℕ → (from : ℕ) → Option (ℕ × ℕ) → Type 0
FindsFirst passes rules from found = MatchOption found (NoneIsLeft passes rules from) (λ f. IsFirstFrom passes rules from f.0 f.1)
