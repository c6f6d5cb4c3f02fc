-- A name that has a place is there.
use Rattle.std.proofs.Common.{◌≡◌, ◌∙◌, ◌+◌, ℕ, suc, Bool, true, false, cond, ltb, List, [], ◌∷◌, length, Some, None, ap, refl, sym, arith, inl, inr}
use Rattle.std.specs.Prelude.{is_some, position}
use Rattle.std.specs.List.{list_any, position_or_len}
use Rattle.std.proofs.lemmas.Bool.{cases_Bool, le-ltb, lt-ltb, ltb-false, ltb-true}

chosen : (n : ℕ) (test : Bool) → is_some (cond test (Some n) None) ≡ test
chosen n true = refl
chosen n false = refl

placed : {A : Type 0} (p : A → Bool) (xs : List A) → ltb (position_or_len p xs) (length xs) ≡ list_any p xs
placed p [] = refl
placed p (x ∷ xs) =
    elim (cases_Bool (p x)) [
      | inl is ↦ rw is (lt-ltb 0 (suc (length xs)) (omega arith))
      | inr isnt ↦ elim (cases_Bool (list_any p xs)) [
        | inl some ↦ let lt = ltb-true (position_or_len p xs) (length xs) (placed p xs ∙ some) in rw (isnt, some) (lt-ltb (1 + position_or_len p xs) (suc (length xs)) (omega (arith, lt)))
        | inr none ↦ let le = ltb-false (position_or_len p xs) (length xs) (placed p xs ∙ none) in rw (isnt, none) (le-ltb (1 + position_or_len p xs) (suc (length xs)) (omega (arith, le)))
      ]
    ]

pub there_if_placed : {A : Type 0} (p : A → Bool) (xs : List A) → is_some (position p xs) ≡ list_any p xs
there_if_placed p xs = chosen (position_or_len p xs) (ltb (position_or_len p xs) (length xs)) ∙ placed p xs

pub there : {A : Type 0} (p : A → Bool) (xs : List A) (place : ℕ) → Some place ≡ position p xs → list_any p xs ≡ true
there p xs place is = sym (there_if_placed p xs) ∙ ap is_some (sym is)

pub not_there : {A : Type 0} (p : A → Bool) (xs : List A) → None ≡ position p xs → list_any p xs ≡ false
not_there p xs is = sym (there_if_placed p xs) ∙ ap is_some (sym is)
