-- Lists that stand one behind the other.
use Rattle.std.proofs.Common.{◌≡◌, ◌∙◌, ap, sym, subst, refl, ℕ, zero, suc, ◌+◌, ◌<◌, List, [], ◌∷◌, ◌++◌, length, drop, append_assoc, Some, arith}
use Rattle.std.specs.List.{AllByRecursion, flat_map, range_with_len}
use Rattle.std.specs.Prelude.{map, slice_get}

module _ {A : Type 0} where
  pub all_append : (P : A → Type 0) (xs ys : List A) → AllByRecursion P xs → AllByRecursion P ys → AllByRecursion P (xs ++ ys)
  all_append P [] ys first second = second
  all_append P (x ∷ xs) ys first second = (first.0, all_append P xs ys first.1 second)

  pub all_more : (P Q : A → Type 0) → ((x : A) → P x → Q x) → (xs : List A) → AllByRecursion P xs → AllByRecursion Q xs
  all_more P Q more [] all = tt
  all_more P Q more (x ∷ xs) all = (more x all.0, all_more P Q more xs all.1)

  pub all_at : (P : A → Type 0) (xs : List A) (n : ℕ) (x : A) → AllByRecursion P xs → slice_get xs n ≡ Some x → P x
  all_at P [] n x all at = absurd cc
  all_at P (y ∷ ys) zero x all at = let same : y ≡ x = cc in subst P same all.0
  all_at P (y ∷ ys) (suc n) x all at = all_at P ys n x all.1 at

  -- ---- by number

  pub at_long : (xs : List A) (n : ℕ) (x : A) → slice_get xs n ≡ Some x → n < length xs
  at_long [] n x at = absurd cc
  at_long (y ∷ ys) zero x at = omega arith
  at_long (y ∷ ys) (suc n) x at = omega (arith, at_long ys n x at)

  pub at_front : (xs ys : List A) (n : ℕ) (x : A) → slice_get xs n ≡ Some x → slice_get (xs ++ ys) n ≡ Some x
  at_front [] ys n x at = absurd cc
  at_front (y ∷ xs) ys zero x at = at
  at_front (y ∷ xs) ys (suc n) x at = at_front xs ys n x at

  pub at_back : (xs ys : List A) (n m : ℕ) → m ≡ length xs + n → slice_get (xs ++ ys) m ≡ slice_get ys n
  at_back [] ys n m is = let same : m ≡ n = omega (arith, is) in ap (slice_get ys) same
  at_back (y ∷ xs) ys n m is = let more : m ≡ suc (length xs + n) = omega (arith, is) in ap (slice_get (y ∷ (xs ++ ys))) more ∙ at_back xs ys n (length xs + n) refl

  pub at_drop : (xs : List A) (n : ℕ) (x : A) → slice_get xs n ≡ Some x → drop n xs ≡ x ∷ drop (n + 1) xs
  at_drop [] n x at = absurd cc
  at_drop (y ∷ ys) zero x at = let same : y ≡ x = cc in ap (λ z. z ∷ ys) same
  at_drop (y ∷ ys) (suc n) x at = let more : suc n + 1 ≡ suc (n + 1) = omega arith in at_drop ys n x at ∙ ap (λ k. x ∷ drop k (y ∷ ys)) (sym more)

  -- what is left begins with what stands there
  pub drop_at : (xs rest : List A) (n : ℕ) (x : A) → drop n xs ≡ x ∷ rest → (slice_get xs n ≡ Some x) × (drop (n + 1) xs ≡ rest)
  drop_at [] rest zero x is = absurd cc
  drop_at [] rest (suc n) x is = absurd cc
  drop_at (y ∷ ys) rest zero x is = let same : y ≡ x = cc in let others : ys ≡ rest = cc in (ap Some same, others)
  drop_at (y ∷ ys) rest (suc n) x is =
      let more : suc n + 1 ≡ suc (n + 1) = omega arith in
      let there = drop_at ys rest n x is in
      (there.0, ap (λ k. drop k (y ∷ ys)) more ∙ there.1)

  pub at_within : (xs ys : List A) (n : ℕ) (x : A) → n < length xs → slice_get (xs ++ ys) n ≡ Some x → slice_get xs n ≡ Some x
  at_within [] ys n x less at = absurd (omega (arith, less))
  at_within (y ∷ xs) ys zero x less at = at
  at_within (y ∷ xs) ys (suc n) x less at = at_within xs ys n x (omega (arith, less)) at

module _ {A B : Type 0} (f : A → B) where
  pub at_mapped : (xs : List A) (n : ℕ) (y : B) → slice_get (map f xs) n ≡ Some y → (x : A) × ((slice_get xs n ≡ Some x) × (f x ≡ y))
  at_mapped [] n y at = absurd cc
  at_mapped (x ∷ xs) zero y at = let same : f x ≡ y = cc in (x, (refl, same))
  at_mapped (x ∷ xs) (suc n) y at = at_mapped xs n y at

  pub mapped_at : (xs : List A) (n : ℕ) (x : A) → slice_get xs n ≡ Some x → slice_get (map f xs) n ≡ Some (f x)
  mapped_at [] n x at = absurd cc
  mapped_at (y ∷ xs) zero x at = let same : y ≡ x = cc in ap (λ z. Some (f z)) same
  mapped_at (y ∷ xs) (suc n) x at = mapped_at xs n x at

-- numbers one behind the other
pub range_append : (a m n : ℕ) → range_with_len a (m + n) ≡ range_with_len a m ++ range_with_len (a + m) n
range_append a zero n = let none : 0 + n ≡ n = omega arith in let same : a ≡ a + 0 = omega arith in ap (range_with_len a) none ∙ ap (λ k. range_with_len k n) same
range_append a (suc m) n =
    let many : suc m + n ≡ suc (m + n) = omega arith in
    let same : a + 1 + m ≡ a + suc m = omega arith in
    ap (range_with_len a) many ∙ ap (λ l. a ∷ l) (range_append (a + 1) m n ∙ ap (λ k. range_with_len (a + 1) m ++ range_with_len k n) same)

-- equal lists, of which fronts are as long, have equal fronts and rests
pub cut_alike : {A : Type 0} (a b c d : List A) → length a ≡ length c → a ++ b ≡ c ++ d → (a ≡ c) × (b ≡ d)
cut_alike [] b [] d long same = (refl, same)
cut_alike [] b (z ∷ c) d long same = absurd (omega (arith, long))
cut_alike (x ∷ a) b [] d long same = absurd (omega (arith, long))
cut_alike (x ∷ a) b (z ∷ c) d long same =
    let head : x ≡ z = cc in
    let tail : a ++ b ≡ c ++ d = cc in
    let rest = cut_alike a b c d (omega (arith, long)) tail in
    (ap (λ y. y ∷ a) head ∙ ap (λ l. z ∷ l) rest.0, rest.1)

pub flat_append : {A B : Type 0} (f : A → List B) (xs ys : List A) → flat_map f (xs ++ ys) ≡ flat_map f xs ++ flat_map f ys
flat_append f [] ys = refl
flat_append f (x ∷ xs) ys = ap (λ l. f x ++ l) (flat_append f xs ys) ∙ sym (append_assoc (f x) (flat_map f xs) (flat_map f ys))
