-- The objects around a word are found as it parts the words, in one way at most.
use Rattle.std.proofs.Common.{◌≡◌, ℕ, suc, ◌+◌, ◌<◌, ◌≤◌, min, true, false, ◌&&◌, List, [], ◌∷◌, length, take, drop, refl, sym, ap, ◌∙◌, subst, arith, inl, inr}
use Rattle.std.specs.Prelude.{Option, Some, None, nat_lt}
use Rattle.std.proofs.lemmas.List.{length-drop}
use Rattle.std.proofs.lemmas.Bool.{ltb-true, ltb-false, cases_Bool, and_from, and_parts}
use Rattle.world_meaning.specs.Spelling.{is_spelled}
use Rattle.play_meaning.specs.Trees.{Object}
use Rattle.i7_conditions.specs.Between.{Both, IsParted, StandsAt, fits, is_one_deep, pair, parted_at, parted_said, place_from}
use Rattle.i7_conditions.specs.Joining.{is_read}
use Rattle.i7_conditions.specs.Objects.{Means}
use Rattle.i7_conditions.specs.Predicates.{is_deep, object_said}
use Rattle.i7_conditions.specs.Readings.{IsFoundAs, two}
use Rattle.i7_conditions.specs.Scopes.{Scope}
use Rattle.i7_conditions.specs.Words.{Word}
use Rattle.i7_conditions.specs.declared.found.Found.{Found}
use Rattle.i7_conditions.specs.declared.found.Found.TheVariants.{Read, TooMany, Unread}
use Rattle.i7_conditions.proofs.FirstParts.{drop_next, left_behind}
use Rattle.i7_conditions.proofs.Listing.{IsOnce, MadeOfTwo, two_found, two_once}
use Rattle.i7_conditions.proofs.Predicated.{object_found}
use Rattle.i7_conditions.proofs.Readings.{meant_once}

-- ---- objects

by_object : (s : Scope) (words : List Word) (found : Found Object) → IsFoundAs (Means s words) is_deep found → is_read found ≡ true → (o : Object) × Means s words o
by_object s words (Read o) h is = (o, h.0)
by_object s words TooMany h is = (h.0, h.1)
by_object s words Unread h is = absurd cc

object_there : (s : Scope) (words : List Word) → is_read (object_said s words) ≡ true → (o : Object) × Means s words o
object_there s words is = by_object s words (object_said s words) (object_found s words) is

by_meaning : (s : Scope) (words : List Word) (o : Object) (found : Found Object) → IsFoundAs (Means s words) is_deep found → Means s words o → is_read found ≡ true
by_meaning s words o (Read p) h means = refl
by_meaning s words o TooMany h means = refl
by_meaning s words o Unread h means = absurd (h o means)

object_is : (s : Scope) (words : List Word) (o : Object) → Means s words o → is_read (object_said s words) ≡ true
object_is s words o means = by_meaning s words o (object_said s words) (object_found s words) means

-- ---- the first place

abbrev Stands : Scope → List ℕ → List Word → ℕ → Type 0
Stands s word words n = (both : Both) × StandsAt s word words n both

abbrev IsFirstPlace : Scope → List ℕ → List Word → ℕ → Option ℕ → Type 0
IsFirstPlace s word words start None = (n : ℕ) → start ≤ n → Stands s word words n → ⊥
IsFirstPlace s word words start (Some n) = Stands s word words n × ((m : ℕ) → start ≤ m → m < n → Stands s word words m → ⊥)

not_at : (s : Scope) (word : List ℕ) (words : List Word) (start : ℕ) → (Stands s word words start → ⊥) → (n : ℕ) → start ≤ n → Stands s word words n → (start + 1 ≤ n → ⊥) → ⊥
not_at s word words start never n le stands later =
    elim (cases_Bool (nat_lt start n)) [
      | inl lt ↦ later (omega (arith, ltb-true _ _ lt))
      | inr ge ↦ let same : n ≡ start = omega (arith, le, ltb-false _ _ ge) in never (subst (Stands s word words) same stands)
    ]

place_later : (s : Scope) (word : List ℕ) (words : List Word) (start : ℕ) (place : Option ℕ) → (Stands s word words start → ⊥) → IsFirstPlace s word words (start + 1) place → IsFirstPlace s word words start place
place_later s word words start None never later = λ n le stands. not_at s word words start never n le stands (λ more. later n more stands)
place_later s word words start (Some n) never later = (later.0, λ m le lt stands. not_at s word words start never m le stands (λ more. later.1 m more lt stands))

same_place : (words rest : List Word) (n : ℕ) (found other : Word) (more : List Word) → drop n words ≡ found ∷ rest → drop n words ≡ other ∷ more → (other ≡ found) × (more ≡ rest)
same_place words rest n found other more e f = let both : other ∷ more ≡ found ∷ rest = sym f ∙ e in (cc, cc)

stands_here : (s : Scope) (word : List ℕ) (words rest : List Word) (n : ℕ) (found : Word) → drop n words ≡ found ∷ rest → fits s word words n found rest ≡ true → Stands s word words n
stands_here s word words rest n found e is =
    let parts = and_parts (is_spelled found word) (is_read (object_said s (take n words)) && is_read (object_said s rest)) is in
    let objects = and_parts (is_read (object_said s (take n words))) (is_read (object_said s rest)) parts.1 in
    let first = object_there s (take n words) objects.0 in
    let second = object_there s rest objects.1 in
    (pair first.0 second.0, record { found = found; rest = rest; at = e; is = parts.0; front = first.1; behind = second.1 })

never_here : (s : Scope) (word : List ℕ) (words rest : List Word) (n : ℕ) (found : Word) → drop n words ≡ found ∷ rest → fits s word words n found rest ≡ false → Stands s word words n → ⊥
never_here s word words rest n found e isnt stands =
    let at = stands.1 in
    let same = same_place words rest n found at.found at.rest e at.at in
    let word_is : is_spelled found word ≡ true = ap (λ (other : Word). is_spelled other word) (sym same.0) ∙ at.is in
    let second : is_read (object_said s rest) ≡ true = ap (λ (more : List Word). is_read (object_said s more)) (sym same.1) ∙ object_is s at.rest stands.0.1 at.behind in
    let first = object_is s (take n words) stands.0.0 at.front in
    let is = and_from (is_spelled found word) (is_read (object_said s (take n words)) && is_read (object_said s rest)) word_is
    (and_from (is_read (object_said s (take n words))) (is_read (object_said s rest)) first second) in
    absurd cc

place_is : (s : Scope) (word : List ℕ) (words : List Word) (start : ℕ) (rest : List Word) → drop start words ≡ rest → IsFirstPlace s word words start (place_from s word words start rest)
place_is s word words start [] e = λ n le stands.
    let long : length (drop start words) ≡ 0 = ap length e in
    let at = stands.1 in
    absurd (omega (arith, long, le, length-drop start words, left_behind words at.rest n at.found at.at))
place_is s word words start (found ∷ rest) e =
    let next : suc start ≡ start + 1 = omega arith in
    let on : IsFirstPlace s word words (start + 1) (place_from s word words (start + 1) rest) =
    place_is s word words (start + 1) rest (ap (λ (m : ℕ). drop m words) (sym next) ∙ drop_next words rest start found e) in
    elim (cases_Bool (fits s word words start found rest)) [
      | inl is ↦ rw is (stands_here s word words rest start found e is, λ m le lt stands. absurd (omega (arith, le, lt)))
      | inr isnt ↦ rw isnt (place_later s word words start (place_from s word words (start + 1) rest) (never_here s word words rest start found e isnt) on)
    ]

-- ---- what is found there

abbrev At : Scope → List Word → List Word → Both → Type 0
At s front rest = MadeOfTwo pair (Means s front) (Means s rest)

-- the objects that the words around a place mean stand there
stands_so : (s : Scope) (word : List ℕ) (words : List Word) (n : ℕ) (at : Stands s word words n) (both : Both) → At s (take n words) at.1.rest both → StandsAt s word words n both
stands_so s word words n at both made =
    subst (StandsAt s word words n) (sym made.4) (record { found = at.1.found; rest = at.1.rest; at = at.1.at; is = at.1.is; front = made.2; behind = made.3 })

parted_so : (s : Scope) (word : List ℕ) (words : List Word) (n : ℕ) (at : Stands s word words n) → ((m : ℕ) → m < n → Stands s word words m → ⊥) → (both : Both) → At s (take n words) at.1.rest both → IsParted s word words both
parted_so s word words n at first both made = record { n = n; stands = stands_so s word words n at both made; shortest = λ k lt other stands. first k lt (other, stands) }

parted_as : (s : Scope) (word : List ℕ) (words : List Word) (n : ℕ) (at : Stands s word words n) → ((m : ℕ) → m < n → Stands s word words m → ⊥) → (found : Found Both) → IsFoundAs (At s (take n words) at.1.rest) is_one_deep found
    → IsFoundAs (IsParted s word words) is_one_deep found
parted_as s word words n at first (Read both) h = (parted_so s word words n at first both h.0, h.1)
parted_as s word words n at first TooMany h = (h.0, parted_so s word words n at first h.0 h.1, h.2)
parted_as s word words n at first Unread h = λ both parted. h at.0 (at.0.0, at.0.1, at.1.front, at.1.behind, refl)

by_place : (s : Scope) (word : List ℕ) (words : List Word) (place : Option ℕ) → IsFirstPlace s word words 0 place → IsFoundAs (IsParted s word words) is_one_deep (parted_at s words place)
by_place s word words None h = λ both parted. h parted.n (omega arith) (both, parted.stands)
by_place s word words (Some n) h =
    let at = h.0.1 in
    let long = left_behind words at.rest n at.found at.at in
    let same : min n (length words) ≡ n = omega (arith, long) in
    let found : IsFoundAs (At s (take n words) at.rest) is_one_deep (two pair (object_said s (take n words)) (object_said s at.rest)) =
    two_found pair (Means s (take n words)) (Means s at.rest) is_deep is_deep is_one_deep (λ x y. refl) (object_said s (take n words)) (object_said s at.rest) (object_found s (take n words)) (object_found s at.rest) in
    rw (same, at.at) (parted_as s word words n h.0 (λ m lt other. h.1 m (omega arith) lt other) (two pair (object_said s (take n words)) (object_said s at.rest)) found)

pub parted_found : (s : Scope) (word : List ℕ) (words : List Word) → IsFoundAs (IsParted s word words) is_one_deep (parted_said s word words)
unfolding parted_said
parted_found s word words = by_place s word words (place_from s word words 0 words) (place_is s word words 0 words refl)

-- ---- in one way at most

one_place : (s : Scope) (word : List ℕ) (words : List Word) (x y : Both) (a : IsParted s word words x) (b : IsParted s word words y) → a.n ≡ b.n
one_place s word words x y a b =
    elim (cases_Bool (nat_lt a.n b.n)) [
      | inl lt ↦ absurd (b.shortest a.n (ltb-true _ _ lt) x a.stands)
      | inr ge ↦ elim (cases_Bool (nat_lt b.n a.n)) [
        | inl lt ↦ absurd (a.shortest b.n (ltb-true _ _ lt) y b.stands)
        | inr le ↦ omega (arith, ltb-false _ _ ge, ltb-false _ _ le)
      ]
    ]

stands_once : (s : Scope) (word : List ℕ) (words : List Word) (n : ℕ) → IsOnce (StandsAt s word words n)
stands_once s word words n x y a b =
    let same = same_place words a.rest n a.found b.found b.rest a.at b.at in
    let means : Means s a.rest y.1 = subst (λ (rest : List Word). Means s rest y.1) same.1 b.behind in
    two_once pair (Means s (take n words)) (Means s a.rest) (meant_once s (take n words)) (meant_once s a.rest) x y (x.0, x.1, a.front, a.behind, refl) (y.0, y.1, b.front, means, refl)

pub parted_once : (s : Scope) (word : List ℕ) (words : List Word) → IsOnce (IsParted s word words)
parted_once s word words x y a b =
    stands_once s word words a.n x y a.stands (subst (λ (n : ℕ). StandsAt s word words n y) (sym (one_place s word words x y a b)) b.stands)
