-- Names that stand once in a list have their places as numbers.
use Rattle.std.proofs.Common.{◌≡◌, ℕ, zero, suc, ◌<◌, Bool, true, false, cond, List, [], ◌∷◌, ◌++◌, length, Option, refl, sym, ap, ◌∙◌, arith, inl, inr, ◌⊎◌, ⊎_elim, true≢false}
use Rattle.std.specs.Prelude.{Some, None, bytes_eq, fold, slice_get}
use Rattle.std.specs.List.{position_or_len}
use Rattle.std.proofs.Math.Numerals.{one-add}
use Rattle.std.proofs.lemmas.Bool.{lt-ltb, cases_Bool}
use Rattle.std.proofs.lemmas.Slice.Eq.{bytes_eq-Decides}
use Rattle.object_words.specs.Mentions.{mention}
use Rattle.i7_claims.specs.Numbers.{has_name, number_in, place_or}

pub same_some : {X : Type 0} {x y : X} → Some x ≡ Some y → x ≡ y
same_some h = cc

pub one_value : {X : Type 0} (found : Option X) (x y : X) → found ≡ Some x → found ≡ Some y → x ≡ y
one_value found x y h k = same_some (sym h ∙ k)

-- ---- places in lists

pub get_pushed : {X : Type 0} (xs : List X) (v : X) (i : ℕ) (w : X) → slice_get (xs ++ v ∷ []) i ≡ Some w → ((i ≡ length xs) × (v ≡ w)) ⊎ (slice_get xs i ≡ Some w)
get_pushed [] v zero w h = inl (refl, same_some h)
get_pushed [] v (suc i) w h = absurd cc
get_pushed (x ∷ xs) v zero w h = inr h
get_pushed (x ∷ xs) v (suc i) w h = ⊎_elim (λ here. inl (ap suc here.0, here.1)) (λ old. inr old) (get_pushed xs v i w h)

-- ---- names by their places

place_within : (names : List (List ℕ)) (name : List ℕ) → has_name names name ≡ true → position_or_len (bytes_eq name) names < length names
place_within [] name h = absurd cc
place_within (n ∷ names) name h =
    elim (cases_Bool (bytes_eq name n)) [
      | inl is ↦ rw is (omega arith)
      | inr isnt ↦ let later : has_name names name ≡ true = rw isnt at h in rw isnt (omega (arith, place_within names name later))
    ]

at_place : (names : List (List ℕ)) (name : List ℕ) → has_name names name ≡ true → slice_get names (position_or_len (bytes_eq name) names) ≡ Some name
at_place [] name h = absurd cc
at_place (n ∷ names) name h =
    elim (cases_Bool (bytes_eq name n)) [
      | inl is ↦ let same : name ≡ n = (bytes_eq-Decides name n).0 is in rw is (ap (λ (x : List ℕ). Some x) (sym same))
      | inr isnt ↦ let later : has_name names name ≡ true = rw isnt at h in rw (isnt, one-add) (at_place names name later)
    ]

-- a name among others stands at its number
pub at_number : (names : List (List ℕ)) (name : List ℕ) → has_name names name ≡ true → slice_get names (number_in names name) ≡ Some name
at_number names name h =
    let inside = lt-ltb (position_or_len (bytes_eq name) names) (length names) (place_within names name h) in
    rw inside (at_place names name h)

nowhere : (names : List (List ℕ)) (name : List ℕ) → has_name names name ≡ false → position_or_len (bytes_eq name) names ≡ length names
nowhere [] name h = refl
nowhere (n ∷ names) name h =
    elim (cases_Bool (bytes_eq name n)) [
      | inl is ↦ let other : true ≡ false = rw is at h in absurd (true≢false other)
      | inr isnt ↦ let later : has_name names name ≡ false = rw isnt at h in rw (isnt, one-add) (ap suc (nowhere names name later))
    ]

place_past : (count place : ℕ) → place ≡ count → (test : Bool) → place_or count (cond test (Some place) None) ≡ count
place_past count place same true = same
place_past count place same false = refl

-- the number of a name that isn't there is how many there are
pub number_past : (names : List (List ℕ)) (name : List ℕ) → has_name names name ≡ false → number_in names name ≡ length names
number_past names name h = place_past (length names) (position_or_len (bytes_eq name) names) (nowhere names name h) _

pub is_there : (names : List (List ℕ)) (i : ℕ) (name : List ℕ) → slice_get names i ≡ Some name → has_name names name ≡ true
is_there [] i name h = absurd cc
is_there (n ∷ names) zero name h = let same : name ≡ n = sym (same_some h) in rw ((bytes_eq-Decides name n).1 same) refl
is_there (n ∷ names) (suc i) name h =
    elim (cases_Bool (bytes_eq name n)) [
      | inl is ↦ rw is refl
      | inr isnt ↦ rw isnt (is_there names i name h)
    ]

-- each name stands at one place
abbrev pub StandOnce : List (List ℕ) → Type 0
StandOnce names = (i j : ℕ) (name : List ℕ) → slice_get names i ≡ Some name → slice_get names j ≡ Some name → i ≡ j

pub number_is : (names : List (List ℕ)) → StandOnce names → (i : ℕ) (name : List ℕ) → slice_get names i ≡ Some name → number_in names name ≡ i
number_is names once i name h = once (number_in names name) i name (at_number names name (is_there names i name h)) h

not_old : (names : List (List ℕ)) (name other : List ℕ) (i : ℕ) → has_name names name ≡ false → name ≡ other → slice_get names i ≡ Some other → ⊥
not_old names name other i new same h = true≢false (sym (is_there names i other h) ∙ ap (has_name names) (sym same) ∙ new)

once_pushed : (names : List (List ℕ)) (name : List ℕ) → StandOnce names → has_name names name ≡ false → StandOnce (names ++ name ∷ [])
once_pushed names name once new i j other h k =
    ⊎_elim
    (λ a. ⊎_elim (λ b. a.0 ∙ sym b.0) (λ old. absurd (not_old names name other j new a.1 old)) (get_pushed names name j other k))
    (λ was. ⊎_elim (λ b. absurd (not_old names name other i new b.1 was)) (λ old. once i j other was old) (get_pushed names name j other k))
    (get_pushed names name i other h)

pub once_mention : (names : List (List ℕ)) (name : List ℕ) → StandOnce names → StandOnce (mention names name)
once_mention names name once =
    elim (cases_Bool (has_name names name)) [
      | inl is ↦ rw is once
      | inr isnt ↦ rw isnt (once_pushed names name once isnt)
    ]

pub once_mentions : (more names : List (List ℕ)) → StandOnce names → StandOnce (fold mention names more)
once_mentions [] names once = once
once_mentions (name ∷ more) names once = once_mentions more (mention names name) (once_mention names name once)

pub none_once : StandOnce []
none_once i j name h k = absurd cc
