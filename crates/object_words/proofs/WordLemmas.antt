-- The words between the blanks of a text, one after the other.
use Rattle.std.proofs.Common.{◌≡◌, ℕ, suc, ◌+◌, ◌<◌, ◌≤◌, Bool, true, false, cond, ltb, eqb, List, [], ◌∷◌, ◌++◌, length, take, drop, Some, None, refl, sym, ap, ◌∙◌, arith, inl, inr}
use Rattle.std.specs.Prelude.{position, fold, filter}
use Rattle.std.specs.List.{position_or_len, slice_split}
use Rattle.std.proofs.lemmas.Bool.{ltb-true, ltb-false, cases_Bool}
use Rattle.std.proofs.Math.Dec.{eqb-suc-zero}
use Rattle.std.proofs.lemmas.List.Splits.{slice_split-cons_yes, slice_split-cons_no}
use Rattle.object_words.specs.Mentions.{mention}
use Rattle.object_words.specs.Words.{is_blank, is_word, blank_words}
use Rattle.object_words.proofs.Folds.{fold_both}

place_of_some : {A : Type 0} (p : A → Bool) (xs : List A) (k : ℕ) (test : Bool) → Some k ≡ cond test (Some (position_or_len p xs)) None → (test ≡ true) × (k ≡ position_or_len p xs)
place_of_some p xs k true e = (refl, cc)
place_of_some p xs k false e = absurd cc

place_of_none : (n : ℕ) (test : Bool) → None ≡ cond test (Some n) None → test ≡ false
place_of_none n true e = absurd cc
place_of_none n false e = refl

split_place : {A : Type 0} (p : A → Bool) (xs : List A) (k : ℕ) → k ≡ position_or_len p xs → k < length xs → slice_split p xs ≡ take k xs ∷ slice_split p (drop 1 (drop k xs))
split_place p [] k e lt = absurd (omega arith)
split_place p (x ∷ xs) k e lt =
    elim (cases_Bool (p x)) [
      | inl is ↦ let z : k ≡ 0 = rw is at e in rw (z, slice_split-cons_yes p x xs is) refl
      | inr isnt ↦
          let s : k ≡ 1 + position_or_len p xs = rw isnt at e in
          let t : k ≡ suc (position_or_len p xs) = omega arith in
          rw (t, slice_split-cons_no p x xs isnt, split_place p xs (position_or_len p xs) refl (omega arith)) refl
    ]

split_whole : {A : Type 0} (p : A → Bool) (xs : List A) → length xs ≤ position_or_len p xs → slice_split p xs ≡ xs ∷ []
split_whole p [] le = refl
split_whole p (x ∷ xs) le =
    elim (cases_Bool (p x)) [
      | inl is ↦ let z : length (x ∷ xs) ≤ 0 = rw is at le in absurd (omega arith)
      | inr isnt ↦ let s : length (x ∷ xs) ≤ 1 + position_or_len p xs = rw isnt at le in rw (slice_split-cons_no p x xs isnt, split_whole p xs (omega arith)) refl
    ]

filter_cons : (w : List ℕ) (ws : List (List ℕ)) → filter is_word (w ∷ ws) ≡ filter is_word (w ∷ []) ++ filter is_word ws
filter_cons [] ws = refl
filter_cons (b ∷ bs) ws = let k : eqb (length (b ∷ bs)) 0 ≡ false = eqb-suc-zero (length bs) in rw k refl

pub blank_within : (xs : List ℕ) (k : ℕ) → Some k ≡ position is_blank xs → k < length xs
blank_within xs k e = let t = place_of_some is_blank xs k (ltb (position_or_len is_blank xs) (length xs)) e in let lt = ltb-true _ _ t.0 in omega (arith, t.1, lt)

pub mentions_on : (words : List (List ℕ)) (xs : List ℕ) (k : ℕ) → Some k ≡ position is_blank xs → fold mention (fold mention words (filter is_word (take k xs ∷ []))) (blank_words (drop 1 (drop k xs))) ≡ fold mention words (blank_words xs)
mentions_on words xs k e =
    let t = place_of_some is_blank xs k (ltb (position_or_len is_blank xs) (length xs)) e in
    let cut = split_place is_blank xs k t.1 (blank_within xs k e) in
    let parts : blank_words xs ≡ filter is_word (take k xs ∷ []) ++ blank_words (drop 1 (drop k xs)) = ap (filter is_word) cut ∙ filter_cons (take k xs) (slice_split is_blank (drop 1 (drop k xs))) in
    sym (fold_both mention words (filter is_word (take k xs ∷ [])) (blank_words (drop 1 (drop k xs)))) ∙ ap (fold mention words) (sym parts)

pub mentions_last : (words : List (List ℕ)) (xs : List ℕ) → None ≡ position is_blank xs → fold mention words (filter is_word (xs ∷ [])) ≡ fold mention words (blank_words xs)
mentions_last words xs e =
    let t = place_of_none (position_or_len is_blank xs) (ltb (position_or_len is_blank xs) (length xs)) e in
    ap (λ pieces. fold mention words (filter is_word pieces)) (sym (split_whole is_blank xs (ltb-false _ _ t)))
