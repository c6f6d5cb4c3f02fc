-- What is given of readings of which there may be one, from what is given of their parts.
use Rattle.std.proofs.Common.{◌≡◌, ℕ, suc, ◌+◌, ◌<◌, ◌≤◌, List, [], ◌∷◌, length, drop, refl, sym, ap, ◌∙◌, subst, arith, inl, inr}
use Rattle.std.specs.Prelude.{Option, Some, None, nat_lt, is_some, true}
use Rattle.std.specs.Option.{option_or}
use Rattle.std.proofs.lemmas.List.{length-drop}
use Rattle.std.proofs.lemmas.Bool.{ltb-true, ltb-false, cases_Bool}
use Rattle.i7_conditions.specs.Readings.{FirstOf}
use Rattle.i7_conditions.specs.Words.{Word}
use Rattle.i7_conditions.proofs.FirstParts.{drop_next, left_behind}
use Rattle.i7_conditions.proofs.Listing.{MadeOfTwo}
use Rattle.i7_patterns.specs.ActionForms.{with_both}
use Rattle.i7_patterns.specs.Lowest.{IsLowest, lowest_from}

abbrev pub IsGiven : {A : Type 0} → (A → Type 0) → Option A → Type 0
IsGiven {A} Means (Some x) = Means x
IsGiven {A} Means None = (x : A) → Means x → ⊥

pub given_as : {A : Type 0} (One Other : A → Type 0) → ((x : A) → One x → Other x) → ((x : A) → Other x → One x) → (a : Option A) → IsGiven One a → IsGiven Other a
given_as One Other to back (Some x) h = to x h
given_as One Other to back None h = λ x means. h x (back x means)

pub or_given : {A : Type 0} (First Second : A → Type 0) (a b : Option A) → IsGiven First a → IsGiven Second b → IsGiven (FirstOf First Second) (option_or a b)
or_given First Second (Some x) b h k = inl h
or_given First Second None (Some y) h k = inr (h, k)
or_given First Second None None h k = λ x either. elim either [
  | inl first ↦ h x first
  | inr second ↦ k x second.1
]

pub both_given : {A B C : Type 0} (make : A → B → C) (First : A → Type 0) (Second : B → Type 0) (a : Option A) (b : Option B) → IsGiven First a → IsGiven Second b
    → IsGiven (MadeOfTwo make First Second) (with_both make a b)
both_given make First Second None b h k = λ c made. h made.0 made.2
both_given make First Second (Some x) None h k = λ c made. k made.1 made.3
both_given make First Second (Some x) (Some y) h k = (x, y, h, k, refl)

-- ---- the lowest

abbrev Never : {A : Type 0} → (ℕ → A → Type 0) → ℕ → Type 0
Never {A} Stands n = (x : A) → Stands n x → ⊥

record IsLowestFrom {A : Type 0} (Stands : ℕ → A → Type 0) (start : ℕ) (x : A) : Type 0 where
  n : ℕ
  from : start ≤ n
  stands : Stands n x
  lowest : (m : ℕ) → start ≤ m → m < n → Never Stands m

abbrev IsFirst : {A : Type 0} → (ℕ → A → Type 0) → ℕ → Option A → Type 0
IsFirst {A} Stands start (Some x) = IsLowestFrom Stands start x
IsFirst {A} Stands start None = (n : ℕ) → start ≤ n → Never Stands n

here : {A : Type 0} (Stands : ℕ → A → Type 0) (start : ℕ) (x : A) → Stands start x → IsLowestFrom Stands start x
here Stands start x h = record { n = start; from = omega arith; stands = h; lowest = λ m le lt. absurd (omega (arith, le, lt)) }

not_at : {A : Type 0} (Stands : ℕ → A → Type 0) (start n : ℕ) → Never Stands start → start ≤ n → ((start + 1 ≤ n) → Never Stands n) → Never Stands n
not_at Stands start n never le later x h =
    elim (cases_Bool (nat_lt start n)) [
      | inl lt ↦ later (omega (arith, ltb-true _ _ lt)) x h
      | inr ge ↦ let same : n ≡ start = omega (arith, le, ltb-false _ _ ge) in never x (subst (λ (m : ℕ). Stands m x) same h)
    ]

later_lowest : {A : Type 0} (Stands : ℕ → A → Type 0) (start : ℕ) (x : A) → Never Stands start → IsLowestFrom Stands (start + 1) x → IsLowestFrom Stands start x
later_lowest Stands start x never h =
    record { n = h.n; from = omega (arith, h.from); stands = h.stands; lowest = λ m le lt. not_at Stands start m never le (λ more. h.lowest m more lt) }

first_here : {A : Type 0} (Stands : ℕ → A → Type 0) (start : ℕ) (found other : Option A) → IsGiven (Stands start) found → IsFirst Stands (start + 1) other → IsFirst Stands start (option_or found other)
first_here Stands start (Some x) other h later = here Stands start x h
first_here Stands start None (Some x) h later = later_lowest Stands start x h later
first_here Stands start None None h later = λ n le. not_at Stands start n h le (λ more. later n more)

first_alone : {A : Type 0} (Stands : ℕ → A → Type 0) (start : ℕ) (found : Option A) → IsGiven (Stands start) found → ((n : ℕ) → start + 1 ≤ n → Never Stands n) → IsFirst Stands start found
first_alone Stands start (Some x) h later = here Stands start x h
first_alone Stands start None h later = λ n le. not_at Stands start n h le (λ more. later n more)

long_end : (words : List Word) (n : ℕ) → drop n words ≡ [] → length words ≤ n
long_end words n e = let long : length (drop n words) ≡ 0 = ap length e in omega (arith, long, length-drop n words)

-- what is there with n words in front is given by them and by those that are left
abbrev pub Gives : {A : Type 0} → (ℕ → A → Type 0) → (ℕ → List Word → Option A) → List Word → Type 0
Gives {A} Stands at words = (n : ℕ) (rest : List Word) → n ≤ length words → drop n words ≡ rest → IsGiven (Stands n) (at n rest)

first_from : {A : Type 0} (Stands : ℕ → A → Type 0) (at : ℕ → List Word → Option A) (words : List Word) → Gives Stands at words → ((n : ℕ) (x : A) → Stands n x → n ≤ length words)
    → (start : ℕ) (rest : List Word) → start ≤ length words → drop start words ≡ rest → IsFirst Stands start (lowest_from at start rest)
first_from Stands at words gives within start [] le e =
    first_alone Stands start (at start []) (gives start [] le e) (λ n more x stands. absurd (omega (arith, more, within n x stands, long_end words start e)))
first_from Stands at words gives within start (word ∷ rest) le e =
    let next : suc start ≡ start + 1 = omega arith in
    first_here Stands start (at start (word ∷ rest)) (lowest_from at (start + 1) rest) (gives start (word ∷ rest) le e)
    (first_from Stands at words gives within (start + 1) rest (omega (arith, left_behind words rest start word e)) (ap (λ (m : ℕ). drop m words) (sym next) ∙ drop_next words rest start word e))

-- the lowest, or nothing at any number
abbrev pub IsSearched : {A : Type 0} → (ℕ → A → Type 0) → Option A → Type 0
IsSearched {A} Stands (Some x) = IsLowest Stands x
IsSearched {A} Stands None = (n : ℕ) (x : A) → Stands n x → ⊥

of_first : {A : Type 0} (Stands : ℕ → A → Type 0) (found : Option A) → IsFirst Stands 0 found → IsSearched Stands found
of_first Stands (Some x) h = record { n = h.n; stands = h.stands; lowest = λ m lt y stands. h.lowest m (omega arith) lt y stands }
of_first Stands None h = λ n x stands. h n (omega arith) x stands

pub searched : {A : Type 0} (Stands : ℕ → A → Type 0) (at : ℕ → List Word → Option A) (words : List Word) → Gives Stands at words → ((n : ℕ) (x : A) → Stands n x → n ≤ length words)
    → IsSearched Stands (lowest_from at 0 words)
searched Stands at words gives within = of_first Stands (lowest_from at 0 words) (first_from Stands at words gives within 0 words (omega arith) refl)

pub lowest_as : {A : Type 0} (One Other : ℕ → A → Type 0) → ((n : ℕ) (x : A) → One n x → Other n x) → ((n : ℕ) (x : A) → Other n x → One n x) → (found : Option A)
    → IsSearched One found → IsSearched Other found
lowest_as One Other to back (Some x) h = record { n = h.n; stands = to h.n x h.stands; lowest = λ m lt y stands. h.lowest m lt y (back m y stands) }
lowest_as One Other to back None h = λ n x stands. h n x (back n x stands)

pub given_lowest : {A : Type 0} (Stands : ℕ → A → Type 0) (found : Option A) → IsSearched Stands found → IsGiven (IsLowest Stands) found
given_lowest Stands (Some x) h = h
given_lowest Stands None h = λ x lowest. h lowest.n x lowest.stands

pub some_of : {A : Type 0} (Stands : ℕ → A → Type 0) (found : Option A) (n : ℕ) (x : A) → IsSearched Stands found → Stands n x → is_some found ≡ true
some_of Stands (Some y) n x h stands = refl
some_of Stands None n x h stands = absurd (h n x stands)
