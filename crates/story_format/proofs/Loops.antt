-- Reading values one after the other, as a loop does.
use Rattle.std.proofs.Common.{◌≡◌, ℕ, zero, suc, ◌-◌, ◌+◌, ◌≤◌, ◌<◌, length, List, [], ◌∷◌, ◌++◌, Option, Some, None, refl, sym, ap, ◌∙◌, append_assoc, arith}
use Rattle.std.proofs.lemmas.List.{append-nil}
use Rattle.std.proofs.lemmas.Option.{same_Some}
use Rattle.story_format.specs.Formats.{and_then, get_many, skip_many}

-- what was read before, and what is still read
abbrev pub with_front : {A : Type 0} → List A → Option (List A × List ℕ) → Option (List A × List ℕ)
with_front front found = and_then found (λ xs rest. Some (front ++ xs, rest))

regroup : {A : Type 0} (front : List A) (x : A) (found : Option (List A × List ℕ)) → with_front front (and_then found (λ xs rest. Some (x ∷ xs, rest))) ≡ with_front (front ++ x ∷ []) found
regroup front x (Some y) = ap (λ xs. Some (xs, y.1)) (simp append_assoc)
regroup front x None = refl

pub goes_on : {A : Type 0} (get : List ℕ → Option (A × List ℕ)) (front : List A) (count i : ℕ) (bytes : List ℕ) (x : A) (after : List ℕ) (total : Option (List A × List ℕ)) → i < count → Some (x, after) ≡ get bytes
    → with_front front (get_many get (count - i) bytes) ≡ total → with_front (front ++ x ∷ []) (get_many get (count - (i + 1)) after) ≡ total
unfolding get_many
goes_on get front count i bytes x after total lt h so_far =
    let k : count - i ≡ suc (count - (i + 1)) = omega arith in
    let one : with_front front (get_many get (count - i) bytes) ≡ with_front (front ++ x ∷ []) (get_many get (count - (i + 1)) after) = rw (k, ← h) (regroup front x (get_many get (count - (i + 1)) after)) in
    sym one ∙ so_far

pub ends : {A : Type 0} (get : List ℕ → Option (A × List ℕ)) (front : List A) (count i : ℕ) (bytes : List ℕ) (total : Option (List A × List ℕ)) → i < count → None ≡ get bytes
    → with_front front (get_many get (count - i) bytes) ≡ total → None ≡ total
unfolding get_many
ends get front count i bytes total lt h so_far =
    let k : count - i ≡ suc (count - (i + 1)) = omega arith in
    let one : with_front front (get_many get (count - i) bytes) ≡ None = rw (k, ← h) refl in
    sym one ∙ so_far

pub is_done : {A : Type 0} (get : List ℕ → Option (A × List ℕ)) (front : List A) (count i : ℕ) (bytes : List ℕ) (total : Option (List A × List ℕ)) → count ≤ i
    → with_front front (get_many get (count - i) bytes) ≡ total → Some (front, bytes) ≡ total
unfolding get_many
is_done get front count i bytes total le so_far =
    let k : count - i ≡ 0 = omega arith in
    let one : with_front front (get_many get (count - i) bytes) ≡ Some (front, bytes) = rw k (ap (λ xs. Some (xs, bytes)) (append-nil front)) in
    sym one ∙ so_far

length_of_rest : {A : Type 0} (n : ℕ) (x : A) (found : Option (List A × List ℕ)) (p : List A × List ℕ) → ((q : List A × List ℕ) → Some q ≡ found → n ≡ length q.0)
    → Some p ≡ and_then found (λ ys after. Some (x ∷ ys, after)) → suc n ≡ length p.0
length_of_rest n x None p known e = absurd cc
length_of_rest n x (Some y) p known e = rw (same_Some p (x ∷ y.0, y.1) e) (ap suc (known y refl))

length_of_first : {A : Type 0} (get : List ℕ → Option (A × List ℕ)) (n : ℕ) (found : Option (A × List ℕ)) (p : List A × List ℕ) → ((bytes : List ℕ) (q : List A × List ℕ) → Some q ≡ get_many get n bytes → n ≡ length q.0)
    → Some p ≡ and_then found (λ x after. and_then (get_many get n after) (λ ys behind. Some (x ∷ ys, behind))) → suc n ≡ length p.0
length_of_first get n None p known e = absurd cc
length_of_first get n (Some x) p known e = length_of_rest n x.0 (get_many get n x.1) p (known x.1) e

pub many_length : {A : Type 0} (get : List ℕ → Option (A × List ℕ)) (n : ℕ) (bytes : List ℕ) (p : List A × List ℕ) → Some p ≡ get_many get n bytes → n ≡ length p.0
unfolding get_many
many_length {A} get zero bytes p e = rw (same_Some p ([], bytes) e) refl
many_length {A} get (suc n) bytes p e = length_of_first get n (get bytes) p (many_length get n) e

-- ---- skipping

pub skips_on : (skip : List ℕ → Option (List ℕ)) (count i : ℕ) (bytes after : List ℕ) (total : Option (List ℕ)) → i < count → Some after ≡ skip bytes → skip_many skip (count - i) bytes ≡ total → skip_many skip (count - (i + 1)) after ≡ total
unfolding skip_many
skips_on skip count i bytes after total lt h so_far =
    let k : count - i ≡ suc (count - (i + 1)) = omega arith in
    let one : skip_many skip (count - i) bytes ≡ skip_many skip (count - (i + 1)) after = rw (k, ← h) refl in
    sym one ∙ so_far

pub skip_ends : (skip : List ℕ → Option (List ℕ)) (count i : ℕ) (bytes : List ℕ) (total : Option (List ℕ)) → i < count → None ≡ skip bytes → skip_many skip (count - i) bytes ≡ total → None ≡ total
unfolding skip_many
skip_ends skip count i bytes total lt h so_far =
    let k : count - i ≡ suc (count - (i + 1)) = omega arith in
    let one : skip_many skip (count - i) bytes ≡ None = rw (k, ← h) refl in
    sym one ∙ so_far

pub skip_done : (skip : List ℕ → Option (List ℕ)) (count i : ℕ) (bytes : List ℕ) (total : Option (List ℕ)) → count ≤ i → skip_many skip (count - i) bytes ≡ total → Some bytes ≡ total
unfolding skip_many
skip_done skip count i bytes total le so_far =
    let k : count - i ≡ 0 = omega arith in
    let one : skip_many skip (count - i) bytes ≡ Some bytes = rw k refl in
    sym one ∙ so_far
