-- Parts of lists, and the order of lists of numbers.
use Rattle.std.proofs.Common.{◌≡◌, ℕ, ◌-◌, ◌<◌, Bool, true, false, List, [], ◌∷◌, ◌++◌, length, take, drop, get_or, refl, ap, sym, ◌∙◌, arith}
use Rattle.std.proofs.lemmas.Grind.{common_steps}
use Rattle.std.proofs.lemmas.List.{length-append}
use Rattle.std.proofs.Math.Seq.{take-append_seam, drop-append_seam}
use Rattle.std.proofs.lemmas.Bool.{false≢true}
use Rattle.i7_sentences.specs.Forms.{comes_before}

pub nil-cons : {X : Type 0} (x : X) (xs : List X) → [] ≡ x ∷ xs → ⊥
nil-cons x xs e = cc

pub same_head : {X : Type 0} (x y : X) (xs ys : List X) → x ∷ xs ≡ y ∷ ys → x ≡ y
same_head x y xs ys e = cc

pub same_tail : {X : Type 0} (x y : X) (xs ys : List X) → x ∷ xs ≡ y ∷ ys → xs ≡ ys
same_tail x y xs ys e = cc

-- the words in front of so many last words, and those last words
pub front_part : {X : Type 0} (front rest : List X) → take (length (front ++ rest) - length rest) (front ++ rest) ≡ front
front_part front rest =
    let count : length (front ++ rest) - length rest ≡ length front = rw (length-append front rest) (omega arith) in
    ap (λ n. take n (front ++ rest)) count ∙ take-append_seam front rest

pub last_part : {X : Type 0} (front rest : List X) → drop (length (front ++ rest) - length rest) (front ++ rest) ≡ rest
last_part front rest =
    let count : length (front ++ rest) - length rest ≡ length front = rw (length-append front rest) (omega arith) in
    ap (λ n. drop n (front ++ rest)) count ∙ drop-append_seam front rest

pub get_here : {X : Type 0} (xs : List X) (x d : X) → get_or (xs ++ x ∷ []) (length xs) d ≡ x
get_here [] x d = refl
get_here (y ∷ xs) x d = grind (arith, common_steps, get_here xs x d)

pub get_before : {X : Type 0} (xs ys : List X) (i : ℕ) (d : X) → i < length xs → get_or (xs ++ ys) i d ≡ get_or xs i d
get_before xs ys i d low = grind (arith, common_steps)

-- a list before one that another doesn't come before, comes before that other
pub before_trans : (a b c : List ℕ) → comes_before a b ≡ true → comes_before c b ≡ false → comes_before a c ≡ true
before_trans [] [] c low high = absurd (false≢true low)
before_trans [] (y ∷ b) [] low high = absurd (false≢true (sym high))
before_trans [] (y ∷ b) (z ∷ c) low high = refl
before_trans (x ∷ a) [] c low high = absurd (false≢true low)
before_trans (x ∷ a) (y ∷ b) [] low high = absurd (false≢true (sym high))
before_trans (x ∷ a) (y ∷ b) (z ∷ c) low high = grind (arith, common_steps, before_trans a b c)

pub before_once : (a b : List ℕ) → comes_before a b ≡ true → comes_before b a ≡ false
before_once [] [] low = absurd (false≢true low)
before_once [] (y ∷ b) low = refl
before_once (x ∷ a) [] low = absurd (false≢true low)
before_once (x ∷ a) (y ∷ b) low = grind (arith, common_steps, before_once a b)

pub before_not_self : (a : List ℕ) → comes_before a a ≡ false
before_not_self [] = refl
before_not_self (x ∷ a) = grind (arith, common_steps, before_not_self a)

pub before_total : (a b : List ℕ) → comes_before a b ≡ false → comes_before b a ≡ false → a ≡ b
before_total [] [] one other = refl
before_total [] (y ∷ b) one other = absurd (false≢true (sym one))
before_total (x ∷ a) [] one other = absurd (false≢true (sym other))
before_total (x ∷ a) (y ∷ b) one other = grind (arith, common_steps, before_total a b)

-- what isn't shorter than one that isn't shorter than another, isn't shorter than that
pub not_before_trans : (a b c : List ℕ) → comes_before b a ≡ false → comes_before c b ≡ false → comes_before c a ≡ false
not_before_trans a b c one other =
    let Goal : Bool → Type 0 = λ low. comes_before c a ≡ low → low ≡ false
    in elim (comes_before c a) as Goal [
      | true ↦ λ low. sym (before_trans c a b low one) ∙ other
      | false ↦ λ high. refl
    ] refl

short_long : {X : Type 0} (ys : List X) (b x y : X) → x ∷ [] ≡ b ∷ (ys ++ y ∷ []) → ⊥
short_long [] b x y e = nil-cons y [] (same_tail x b [] (y ∷ []) e)
short_long (c ∷ ys) b x y e = nil-cons c (ys ++ y ∷ []) (same_tail x b [] (c ∷ (ys ++ y ∷ [])) e)

-- the last of a list, and those before it
pub same_last : {X : Type 0} (xs ys : List X) (x y : X) → xs ++ x ∷ [] ≡ ys ++ y ∷ [] → (xs ≡ ys) × (x ≡ y)
same_last [] [] x y e = (refl, same_head x y [] [] e)
same_last [] (b ∷ ys) x y e = absurd (short_long ys b x y e)
same_last (a ∷ xs) [] x y e = absurd (short_long xs a y x (sym e))
same_last (a ∷ xs) (b ∷ ys) x y e =
    let tails = same_last xs ys x y (same_tail a b (xs ++ x ∷ []) (ys ++ y ∷ []) e) in
    let heads = same_head a b (xs ++ x ∷ []) (ys ++ y ∷ []) e in
    (cc, tails.1)
