-- Lists read place by place, and numbers in their order.
use Rattle.std.proofs.Common.{◌≡◌, ℕ, zero, suc, ◌+◌, ◌-◌, ◌<◌, ◌≤◌, Bool, true, false, List, [], ◌∷◌, ◌++◌, length, drop, refl, ap, sym, ◌∙◌, arith}
use Rattle.std.specs.Prelude.{None, Some, ◌&&◌, filter, find, if◌then◌else◌, slice_get}
use Rattle.std.specs.List.{list_all, range_with_len}
use Rattle.std.proofs.lemmas.List.{append_assoc, drop_more}
use Rattle.std.proofs.lemmas.Option.{slice_get_within, slice_get-get_or, get_or_from_slice_get}

-- what is at a place, in front of what is behind it
pub at_place : {A : Type 0} (xs : List A) (n : ℕ) (x : A) → slice_get xs n ≡ Some x → drop n xs ≡ x ∷ drop (n + 1) xs
at_place xs n x found = drop_more xs n x (slice_get_within xs n x found) ∙ ap (λ y. y ∷ drop (n + 1) xs) (get_or_from_slice_get xs n x x found)

-- within a list each place has something
pub none_within : {A : Type 0} (xs : List A) (n : ℕ) → n < length xs → slice_get xs n ≡ None → drop n xs ≡ []
none_within [] n within none = absurd (omega (arith, within))
none_within (x ∷ xs) n within none = absurd (let found = slice_get-get_or (x ∷ xs) n x within in cc)

drop_past : {A : Type 0} (xs : List A) (n : ℕ) → length xs ≤ n → drop n xs ≡ []
drop_past [] zero past = refl
drop_past [] (suc n) past = refl
drop_past (x ∷ xs) zero past = absurd (omega (arith, past))
drop_past (x ∷ xs) (suc n) past = drop_past xs n (omega (arith, past))

pub past_all : {A : Type 0} (xs : List A) (n : ℕ) → length xs ≤ n → drop n xs ≡ []
past_all xs n past = drop_past xs n past

-- what is looked for from a number on is there or behind it
pub from_here : (p : ℕ → Bool) (n count : ℕ) → n < count → find p (range_with_len n (count - n)) ≡ (if p n then Some n else find p (range_with_len (n + 1) (count - (n + 1))))
from_here p n count inside =
    let one : count - n ≡ suc (count - (n + 1)) = omega (arith, inside) in
    ap (λ k. find p (range_with_len n k)) one

-- what holds from a number on holds there and behind it
pub all_from_here : (p : ℕ → Bool) (n count : ℕ) → n < count → list_all p (range_with_len n (count - n)) ≡ (p n && list_all p (range_with_len (n + 1) (count - (n + 1))))
all_from_here p n count inside =
    let one : count - n ≡ suc (count - (n + 1)) = omega (arith, inside) in
    ap (λ k. list_all p (range_with_len n k)) one

-- what passes from a number on is there and behind it
filter_from_here : (p : ℕ → Bool) (n count : ℕ) → n < count → filter p (range_with_len n (count - n)) ≡ (if p n then n ∷ filter p (range_with_len (n + 1) (count - (n + 1))) else filter p (range_with_len (n + 1) (count - (n + 1))))
filter_from_here p n count inside =
    let one : count - n ≡ suc (count - (n + 1)) = omega (arith, inside) in
    ap (λ k. filter p (range_with_len n k)) one

added : (is : Bool) (so_far rest : List ℕ) (n : ℕ) → (if is then so_far ++ n ∷ [] else so_far) ++ rest ≡ so_far ++ (if is then n ∷ rest else rest)
added true so_far rest n = append_assoc so_far (n ∷ []) rest
added false so_far rest n = refl

pub one_more_passes : (p : ℕ → Bool) (n count : ℕ) (so_far now : List ℕ) (is : Bool) → n < count → is ≡ p n → now ≡ (if is then so_far ++ n ∷ [] else so_far)
    → now ++ filter p (range_with_len (n + 1) (count - (n + 1))) ≡ so_far ++ filter p (range_with_len n (count - n))
one_more_passes p n count so_far now is inside test adds =
    ap (λ xs. xs ++ filter p (range_with_len (n + 1) (count - (n + 1)))) adds
    ∙ added is so_far (filter p (range_with_len (n + 1) (count - (n + 1)))) n
    ∙ ap (λ (v : Bool). so_far ++ (if v then n ∷ filter p (range_with_len (n + 1) (count - (n + 1))) else filter p (range_with_len (n + 1) (count - (n + 1))))) test
    ∙ ap (λ xs. so_far ++ xs) (sym (filter_from_here p n count inside))
