-- Words cut at their first `from`.
use Rattle.std.proofs.Common.{◌≡◌, ℕ, ◌+◌, ◌<◌, ◌≤◌, Bool, List, [], ◌∷◌, ◌++◌, length, take, drop, refl, sym, ap, ◌∙◌, append_assoc, arith, inl, inr}
use Rattle.std.specs.Prelude.{flat_map}
use Rattle.std.specs.List.{position_or_len, slice_split}
use Rattle.std.proofs.lemmas.List.Splits.{slice_split_first, slice_split-cons_no}
use Rattle.std.proofs.lemmas.List.{append-nil, drop-drop, length-drop, take_all}
use Rattle.std.proofs.lemmas.Bool.{cases_Bool}

split_whole : {A : Type 0} (p : A → Bool) (xs : List A) → length xs ≤ position_or_len p xs → slice_split p xs ≡ xs ∷ []
split_whole p [] le = refl
split_whole p (x ∷ xs) le =
    elim (cases_Bool (p x)) [
      | inl is ↦ let z : length (x ∷ xs) ≤ 0 = rw is at le in absurd (omega arith)
      | inr isnt ↦ let s : length (x ∷ xs) ≤ 1 + position_or_len p xs = rw isnt at le in rw (slice_split-cons_no p x xs isnt, split_whole p xs (omega arith)) refl
    ]

pub run_first : {A : Type 0} (p : A → Bool) (xs : List A) (n : ℕ) → n ≡ position_or_len p xs → n < length xs → slice_split p xs ≡ take n xs ∷ slice_split p (drop 1 (drop n xs))
run_first p [] n e lt = absurd (omega arith)
run_first p (x ∷ xs) n e lt =
    let all = slice_split_first p (x ∷ xs) x (omega arith) in
    all ∙ rw (drop-drop, ← e) refl

pub run_parts : {A : Type 0} (p : A → Bool) (xs : List A) (n : ℕ) (front rest behind : List A) → n ≡ position_or_len p xs → n < length xs → front ≡ take n xs → rest ≡ drop n xs → behind ≡ drop 1 rest
    → (slice_split p xs ≡ front ∷ slice_split p behind) × (length behind < length xs)
run_parts {A} p xs n front rest behind e lt f r b =
    let back : behind ≡ drop 1 (drop n xs) = cc in
    let less : length behind < length xs = rw (back, length-drop, length-drop) (omega arith) in
    (run_first p xs n e lt ∙ rw (← back, ← f) refl, less)

pub flat_more : {A B : Type 0} (f : A → List B) (before more : List B) (parts rest : List A) (part : A) → parts ≡ part ∷ rest → more ≡ before ++ f part → more ++ flat_map f rest ≡ before ++ flat_map f parts
flat_more f before more parts rest part e m = rw (e, m) (append_assoc before (f part) (flat_map f rest))

pub flat_last : {A B : Type 0} (f : A → List B) (before more : List B) (parts : List A) (part : A) → parts ≡ part ∷ [] → more ≡ before ++ f part → more ≡ before ++ flat_map f parts
flat_last f before more parts part e m = rw (e, append-nil) m

pub ruleset run_steps = (flat_more, flat_last)

pub no_cut : {A : Type 0} (p : A → Bool) (xs front : List A) (n : ℕ) → n ≡ position_or_len p xs → length xs ≤ n → front ≡ take n xs → slice_split p xs ≡ front ∷ []
no_cut p xs front n e le f = split_whole p xs (omega arith) ∙ ap (λ part. part ∷ []) (sym (f ∙ take_all n xs le))
