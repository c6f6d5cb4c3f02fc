-- The best of the actions that pass a test is found.
use Rattle.std.proofs.Common.{◌≡◌, ◌⊎◌, ℕ, suc, ◌+◌, ◌<◌, ◌≤◌, Bool, true, false, ◌&&◌, ◌||◌, List, [], ◌∷◌, length, drop, get_or, refl, sym, ap, ◌∙◌, subst, arith, inl, inr}
use Rattle.std.specs.Prelude.{Some, None, nat_lt, ◌==◌, if◌then◌else◌}
use Rattle.std.specs.List.{slice_get}
use Rattle.std.proofs.lemmas.List.{drop-drop, length-drop, get_or-drop}
use Rattle.std.proofs.lemmas.Option.{slice_get_read, slice_get_within}
use Rattle.std.proofs.lemmas.Bool.{ltb-true, ltb-false, cases_Bool, and_from, and_parts}
use Rattle.std.proofs.lemmas.Bool.Decides.{nat_tests}
use Rattle.i7_actions.specs.Parts.{first_part, second_part}
use Rattle.i7_actions.specs.Trying.{GoesBefore, is_longer}
use Rattle.i7_actions.specs.TryingForms.{Best, best_from, improves}
use Rattle.i7_actions.specs.declared.action.Action.{Action}

-- ---- the order

abbrev longer : ℕ → ℕ → ℕ → ℕ → Bool
longer f g s t = nat_lt g f || ((f == g) && nat_lt t s)

abbrev Longer : ℕ → ℕ → ℕ → ℕ → Type 0
Longer f g s t = (g < f) ⊎ ((f ≡ g) × (t < s))

longer_is : (f g s t : ℕ) → longer f g s t ≡ true → Longer f g s t
longer_is f g s t e =
    elim (cases_Bool (nat_lt g f)) [
      | inl lt ↦ inl (ltb-true _ _ lt)
      | inr ge ↦ let is = and_parts (f == g) (nat_lt t s) (sym (ap (λ (b : Bool). b || ((f == g) && nat_lt t s)) ge) ∙ e) in inr (grind (arith, nat_tests, is.0), ltb-true _ _ is.1)
    ]

longer_so : (f g s t : ℕ) → Longer f g s t → longer f g s t ≡ true
longer_so f g s t (inl lt) = let is : nat_lt g f ≡ true = grind (arith, nat_tests) in rw is refl
longer_so f g s t (inr h) =
    let isnt : nat_lt g f ≡ false = grind (arith, nat_tests, h.0) in
    let same : (f == g) ≡ true = grind (arith, nat_tests, h.0) in
    let is : nat_lt t s ≡ true = grind (arith, nat_tests, h.1) in
    rw (isnt, same, is) refl

longer_not : (f g s t : ℕ) → longer f g s t ≡ false → Longer f g s t → ⊥
longer_not f g s t e h = let is = longer_so f g s t h in absurd cc

over : (f g h s t u : ℕ) → (Longer f h s u → ⊥) → Longer f g s t → longer h g u t ≡ true
over f g h s t u isnt does =
    elim (cases_Bool (nat_lt g h)) [
      | inl above ↦ longer_so h g u t (inl (ltb-true _ _ above))
      | inr below ↦ elim (cases_Bool (nat_lt h f)) [
        | inl lt ↦ absurd (isnt (inl (ltb-true _ _ lt)))
        | inr le ↦ elim does [
          | inl first ↦ absurd (omega (arith, first, ltb-false _ _ below, ltb-false _ _ le))
          | inr second ↦ elim (cases_Bool (nat_lt u s)) [
            | inl lt ↦ let same : f ≡ h = omega (arith, second.0, ltb-false _ _ below, ltb-false _ _ le) in absurd (isnt (inr (same, ltb-true _ _ lt)))
            | inr ge ↦ longer_so h g u t (inr (omega (arith, second.0, ltb-false _ _ below, ltb-false _ _ le), omega (arith, second.1, ltb-false _ _ ge)))
          ]
        ]
      ]
    ]

never_self : (f s : ℕ) → Longer f f s s → ⊥
never_self f s (inl lt) = absurd (omega (arith, lt))
never_self f s (inr h) = absurd (omega (arith, h.1))

-- of three, the last goes before the second where it isn't shorter than the first, which does
longer_over : (a b c : Action) → is_longer a c ≡ false → is_longer a b ≡ true → is_longer c b ≡ true
unfolding is_longer
longer_over a b c isnt does =
    over (length (first_part a.name)) (length (first_part b.name)) (length (first_part c.name)) (length (second_part a.name)) (length (second_part b.name)) (length (second_part c.name))
    (longer_not (length (first_part a.name)) (length (first_part c.name)) (length (second_part a.name)) (length (second_part c.name)) isnt)
    (longer_is (length (first_part a.name)) (length (first_part b.name)) (length (second_part a.name)) (length (second_part b.name)) does)

not_longer_self : (a : Action) → is_longer a a ≡ true → ⊥
unfolding is_longer
not_longer_self a e =
    never_self (length (first_part a.name)) (length (second_part a.name))
    (longer_is (length (first_part a.name)) (length (first_part a.name)) (length (second_part a.name)) (length (second_part a.name)) e)

on : (f g h s t u : ℕ) → Longer h f u s → Longer f g s t → longer h g u t ≡ true
on f g h s t u (inl up) (inl does) = longer_so h g u t (inl (omega (arith, up, does)))
on f g h s t u (inl up) (inr does) = longer_so h g u t (inl (omega (arith, up, does.0)))
on f g h s t u (inr up) (inl does) = longer_so h g u t (inl (omega (arith, up.0, does)))
on f g h s t u (inr up) (inr does) = longer_so h g u t (inr (omega (arith, up.0, does.0), omega (arith, up.1, does.1)))

longer_on : (a b c : Action) → is_longer c a ≡ true → is_longer a b ≡ true → is_longer c b ≡ true
unfolding is_longer
longer_on a b c up does =
    on (length (first_part a.name)) (length (first_part b.name)) (length (first_part c.name)) (length (second_part a.name)) (length (second_part b.name)) (length (second_part c.name))
    (longer_is (length (first_part c.name)) (length (first_part a.name)) (length (second_part c.name)) (length (second_part a.name)) up)
    (longer_is (length (first_part a.name)) (length (first_part b.name)) (length (second_part a.name)) (length (second_part b.name)) does)

-- ---- places of a list

pub at_place : {X : Type 0} (xs rest : List X) (n : ℕ) (x : X) → drop n xs ≡ x ∷ rest → slice_get xs n ≡ Some x
at_place xs rest n x e =
    let long : length (drop n xs) ≡ suc (length rest) = ap length e in
    let here : get_or (drop n xs) 0 x ≡ x = ap (λ ys. get_or ys 0 x) e in
    let there : get_or (drop n xs) 0 x ≡ get_or xs (n + 0) x = get_or-drop n xs 0 x in
    let plus : n + 0 ≡ n = omega arith in
    slice_get_read xs (length xs) n x refl (omega (arith, long, length-drop n xs)) (sym here ∙ there ∙ ap (λ m. get_or xs m x) plus)

pub none_further : {X : Type 0} (xs : List X) (n m : ℕ) (x : X) → drop n xs ≡ [] → n ≤ m → slice_get xs m ≡ Some x → ⊥
none_further xs n m x e le at =
    let long : length (drop n xs) ≡ 0 = ap length e in
    absurd (omega (arith, le, long, length-drop n xs, slice_get_within xs m x at))

pub earlier : (m n : ℕ) → m < n + 1 → (m < n) ⊎ (m ≡ n)
earlier m n lt =
    elim (cases_Bool (nat_lt m n)) [
      | inl less ↦ inl (ltb-true _ _ less)
      | inr more ↦ inr (omega (arith, lt, ltb-false _ _ more))
    ]

pub one_at : {X : Type 0} (xs : List X) (m n : ℕ) (x y : X) → m ≡ n → slice_get xs m ≡ Some x → slice_get xs n ≡ Some y → x ≡ y
one_at xs m n x y e at there = let both : Some x ≡ Some y = sym at ∙ ap (slice_get xs) e ∙ there in cc

pub next_place : {X : Type 0} (xs rest : List X) (n : ℕ) (x : X) → drop n xs ≡ x ∷ rest → drop (n + 1) xs ≡ rest
next_place xs rest n x e = sym (drop-drop 1 n xs) ∙ ap (drop 1) e

-- ---- the best of the actions in front of a number

pub record IsLeading (can : Action → Bool) (actions : List Action) (number n : ℕ) (a : Action) : Type 0 where
  pub at : slice_get actions n ≡ Some a
  pub tries : can a ≡ true
  pub first : (m : ℕ) (other : Action) → m < number → slice_get actions m ≡ Some other → GoesBefore m other n a → can other ≡ true → ⊥

abbrev IsBest : (Action → Bool) → List Action → ℕ → Best → Type 0
IsBest can actions number None = (m : ℕ) (other : Action) → m < number → slice_get actions m ≡ Some other → can other ≡ true → ⊥
IsBest can actions number (Some best) = (best.0 < number) × IsLeading can actions number best.0 best.1

still_none : (can : Action → Bool) (actions rest : List Action) (number : ℕ) (a : Action) → drop number actions ≡ a ∷ rest → can a ≡ false → IsBest can actions number None
    → IsBest can actions (number + 1) None
still_none can actions rest number a e cannot h = λ m other lt at tries.
    elim (earlier m number lt) [
      | inl less ↦ h m other less at tries
      | inr here ↦ let same : other ≡ a = one_at actions m number other a here at (at_place actions rest number a e) in let is : can a ≡ true = ap can (sym same) ∙ tries in absurd cc
    ]

not_before : (n : ℕ) (a : Action) → GoesBefore n a n a → ⊥
not_before n a (inl above) = not_longer_self a above
not_before n a (inr h) = absurd (omega (arith, h.1))

now_first : (can : Action → Bool) (actions rest : List Action) (number : ℕ) (a : Action) → drop number actions ≡ a ∷ rest → can a ≡ true
    → ((m : ℕ) (other : Action) → m < number → slice_get actions m ≡ Some other → GoesBefore m other number a → can other ≡ true → ⊥)
    → IsBest can actions (number + 1) (Some (number, a))
now_first can actions rest number a e tries none = (
  omega arith,
  record {
    at = at_place actions rest number a e;
    tries = tries;
    first = λ m other lt at before is.
        elim (earlier m number lt) [
          | inl less ↦ none m other less at before is
          | inr here ↦
              let same : other ≡ a = one_at actions m number other a here at (at_place actions rest number a e) in
              let moved : GoesBefore number a number a = subst (λ (k : ℕ). GoesBefore k a number a) here (subst (λ (b : Action). GoesBefore m b number a) same before) in
              not_before number a moved
        ];
  },
)

led_over : (can : Action → Bool) (actions : List Action) (number n : ℕ) (a b : Action) → IsLeading can actions number n b → is_longer a b ≡ true
    → (m : ℕ) (other : Action) → m < number → slice_get actions m ≡ Some other → GoesBefore m other number a → can other ≡ true → ⊥
led_over can actions number n a b h does m other lt at (inl above) tries = h.first m other lt at (inl (longer_on a b other above does)) tries
led_over can actions number n a b h does m other lt at (inr equal) tries = h.first m other lt at (inl (longer_over a b other equal.0 does)) tries

kept : (can : Action → Bool) (actions rest : List Action) (number n : ℕ) (a b : Action) → drop number actions ≡ a ∷ rest → n < number → IsLeading can actions number n b
    → (is_longer a b && can a) ≡ false → IsBest can actions (number + 1) (Some (n, b))
kept can actions rest number n a b e less h isnt = (
  omega (arith, less),
  record {
    at = h.at;
    tries = h.tries;
    first = λ m other lt at before tries.
        elim (earlier m number lt) [
          | inl front ↦ h.first m other front at before tries
          | inr here ↦
              let same : other ≡ a = one_at actions m number other a here at (at_place actions rest number a e) in
              let is : can a ≡ true = ap can (sym same) ∙ tries in
              let moved : GoesBefore number a n b = subst (λ (k : ℕ). GoesBefore k a n b) here (subst (λ (c : Action). GoesBefore m c n b) same before) in
              elim moved [
                | inl above ↦ let does = and_from (is_longer a b) (can a) above is in absurd cc
                | inr equal ↦ absurd (omega (arith, less, equal.1))
              ]
        ];
  },
)

best_on : (can : Action → Bool) (actions rest : List Action) (number : ℕ) (a : Action) (best : Best) → drop number actions ≡ a ∷ rest → IsBest can actions number best
    → IsBest can actions (number + 1) (if improves can a best then Some (number, a) else best)
best_on can actions rest number a None e h =
    elim (cases_Bool (can a)) [
      | inl tries ↦ rw tries (now_first can actions rest number a e tries (λ m other lt at before is. h m other lt at is))
      | inr cannot ↦ rw cannot (still_none can actions rest number a e cannot h)
    ]
best_on can actions rest number a (Some best) e h =
    elim (cases_Bool (is_longer a best.1 && can a)) [
      | inl does ↦ let are = and_parts (is_longer a best.1) (can a) does in rw does (now_first can actions rest number a e are.1 (led_over can actions number best.0 a best.1 h.1 are.0))
      | inr kept_so ↦ rw kept_so (kept can actions rest number best.0 a best.1 e h.0 h.1 kept_so)
    ]

-- ---- the best of all

abbrev pub IsBestOfAll : (Action → Bool) → List Action → Best → Type 0
IsBestOfAll can actions None = (m : ℕ) (other : Action) → slice_get actions m ≡ Some other → can other ≡ true → ⊥
IsBestOfAll can actions (Some best) = IsLeading can actions (length actions) best.0 best.1

of_all : (can : Action → Bool) (actions : List Action) (number : ℕ) (best : Best) → length actions ≤ number → IsBest can actions number best → IsBestOfAll can actions best
of_all can actions number None le h = λ m other at tries. h m other (omega (arith, le, slice_get_within actions m other at)) at tries
of_all can actions number (Some best) le h =
    record { at = h.1.at; tries = h.1.tries; first = λ m other lt at before tries. h.1.first m other (omega (arith, le, lt)) at before tries }

from_here : (can : Action → Bool) (actions : List Action) (number : ℕ) (best : Best) (rest : List Action) → drop number actions ≡ rest → IsBest can actions number best
    → IsBestOfAll can actions (best_from can number best rest)
from_here can actions number best [] e h = let long : length (drop number actions) ≡ 0 = ap length e in of_all can actions number best (omega (arith, long, length-drop number actions)) h
from_here can actions number best (a ∷ rest) e h =
    from_here can actions (number + 1) (if improves can a best then Some (number, a) else best) rest (next_place actions rest number a e) (best_on can actions rest number a best e h)

pub best_of_all : (can : Action → Bool) (actions : List Action) → IsBestOfAll can actions (best_from can 0 None actions)
best_of_all can actions = from_here can actions 0 None actions refl (λ m other lt at tries. absurd (omega (arith, lt)))

-- ---- one that goes before all

pub one_first : (m n : ℕ) (a b : Action) → (GoesBefore m a n b → ⊥) → (GoesBefore n b m a → ⊥) → m ≡ n
one_first m n a b isnt nor =
    elim (cases_Bool (is_longer a b)) [
      | inl above ↦ absurd (isnt (inl above))
      | inr shorter ↦ elim (cases_Bool (is_longer b a)) [
        | inl above ↦ absurd (nor (inl above))
        | inr equal ↦ elim (cases_Bool (nat_lt m n)) [
          | inl lt ↦ absurd (isnt (inr (equal, ltb-true _ _ lt)))
          | inr ge ↦ elim (cases_Bool (nat_lt n m)) [
            | inl lt ↦ absurd (nor (inr (shorter, ltb-true _ _ lt)))
            | inr le ↦ omega (arith, ltb-false _ _ ge, ltb-false _ _ le)
          ]
        ]
      ]
    ]
