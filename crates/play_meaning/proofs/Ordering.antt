-- A book holds each of its listed rules once, and none is before one in front of it.
use Rattle.std.proofs.Common.{◌≡◌, ◌∙◌, ap, sym, refl, ℕ, zero, suc, ◌+◌, ◌<◌, ℤ, Bool, true, false, true≢false, List, [], ◌∷◌, arith}
use Rattle.std.specs.Prelude.{◌==◌, Some, slice_get, if◌then◌else◌}
use Rattle.std.specs.Cmp.{IsTotalOrder}
use Rattle.std.specs.Cmp.Lexicographic.{slice_cmp}
use Rattle.std.proofs.lemmas.Cmp.{int_cmp_total, lists_total}
use Rattle.std.specs.List.{AllByRecursion}
use Rattle.std.specs.declared.cmp.Ordering.{Ordering}
use Rattle.std.specs.declared.cmp.Ordering.TheVariants.{Less, Equal, Greater}
use Rattle.std.specs.Ordering.{int_cmp, is_lt, ordering_reverse}
use Rattle.play_meaning.specs.Order.{Rises, book_of, is_before, is_of_book, key_in, listed_from, put_in, sorted, times}
use Rattle.play_meaning.specs.Rules.{Rule}
use Rattle.play_meaning.specs.Settings.{Setting}

-- ---- each once

put_times : (b : ℕ → ℕ → Bool) (k n : ℕ) (ms : List ℕ) → times k (put_in b n ms) ≡ times k (n ∷ ms)
put_times b k n [] = refl
put_times b k n (m ∷ ms) =
    let Goal : Bool → Type 0 = λ test. times k (if test then n ∷ m ∷ ms else m ∷ put_in b n ms) ≡ times k (n ∷ m ∷ ms) in
    elim (b n m) as Goal [
      | true ↦ refl
      | false ↦ omega (arith, put_times b k n ms)
    ]

sorted_times : (b : ℕ → ℕ → Bool) (k : ℕ) (ns : List ℕ) → times k (sorted b ns) ≡ times k ns
sorted_times b k [] = refl
sorted_times b k (n ∷ ns) = put_times b k n (sorted b ns) ∙ ap (λ x. (if n == k then 1 else 0) + x) (sorted_times b k ns)

abbrev pub once_if : Bool → ℕ
once_if test = if test then 1 else 0

-- no number below the first
below_times : (book k n : ℕ) (rules : List Rule) → (k < n) → times k (listed_from book n rules) ≡ 0
below_times book k n [] below = refl
below_times book k n (rule ∷ rules) below =
    let Goal : Bool → Type 0 = λ test. times k (if test then n ∷ listed_from book (n + 1) rules else listed_from book (n + 1) rules) ≡ 0 in
    elim (is_of_book book (Some rule)) as Goal [
      | true ↦ grind (arith, below_times book k (n + 1) rules (omega (arith, below)), below)
      | false ↦ below_times book k (n + 1) rules (omega (arith, below))
    ]

at_times : (book n j : ℕ) (rules : List Rule) → times (n + j) (listed_from book n rules) ≡ once_if (is_of_book book (slice_get rules j))
at_times book n j [] = refl
at_times book n zero (rule ∷ rules) =
    let Goal : Bool → Type 0 = λ test. times (n + 0) (if test then n ∷ listed_from book (n + 1) rules else listed_from book (n + 1) rules) ≡ once_if test in
    elim (is_of_book book (Some rule)) as Goal [
      | true ↦ grind (arith, below_times book (n + 0) (n + 1) rules (omega arith))
      | false ↦ below_times book (n + 0) (n + 1) rules (omega arith)
    ]
at_times book n (suc j) (rule ∷ rules) =
    let Goal : Bool → Type 0 = λ test. times (n + suc j) (if test then n ∷ listed_from book (n + 1) rules else listed_from book (n + 1) rules) ≡ once_if (is_of_book book (slice_get rules j)) in
    elim (is_of_book book (Some rule)) as Goal [
      | true ↦ grind (arith, at_times book (n + 1) j rules)
      | false ↦ grind (arith, at_times book (n + 1) j rules)
    ]

from_none : (k : ℕ) → k ≡ 0 + k
from_none k = omega arith

pub listed_times : (rules : List Rule) (book rule : ℕ) → times rule (listed_from book 0 rules) ≡ (if is_of_book book (slice_get rules rule) then 1 else 0)
listed_times rules book rule = ap (λ k. times k (listed_from book 0 rules)) (from_none rule) ∙ at_times book 0 rule rules

pub book_times : (s : Setting) (rules : List Rule) (book rule : ℕ) → times rule (book_of s rules book) ≡ (if is_of_book book (slice_get rules rule) then 1 else 0)
unfolding book_of
book_times s rules book rule = sorted_times (is_before s rules) rule (listed_from book 0 rules) ∙ listed_times rules book rule

-- ---- rising

record IsStrict (b : ℕ → ℕ → Bool) : Type 0 where
  pub asym : (x y : ℕ) → b x y ≡ true → b y x ≡ false
  pub trans : (x y z : ℕ) → b x y ≡ true → b y z ≡ true → b x z ≡ true

all_put : (P : ℕ → Type 0) (b : ℕ → ℕ → Bool) (n : ℕ) (ms : List ℕ) → P n → AllByRecursion P ms → AllByRecursion P (put_in b n ms)
all_put P b n [] pn all = (pn, all)
all_put P b n (m ∷ ms) pn all =
    let Goal : Bool → Type 0 = λ test. AllByRecursion P (if test then n ∷ m ∷ ms else m ∷ put_in b n ms) in
    elim (b n m) as Goal [
      | true ↦ (pn, all)
      | false ↦ (all.0, all_put P b n ms pn all.1)
    ]

-- what isn't before one isn't before any in front of it
not_before : (b : ℕ → ℕ → Bool) → IsStrict b → (n m x : ℕ) → b n m ≡ true → b x m ≡ false → b x n ≡ false
not_before b o n m x is other =
    let Goal : Bool → Type 0 = λ test. b x n ≡ test → b x n ≡ false in
    elim (b x n) as Goal [
      | true ↦ λ yes_is. absurd (true≢false (sym (o.trans x n m yes_is is) ∙ other))
      | false ↦ λ no_is. no_is
    ] refl

all_not_before : (b : ℕ → ℕ → Bool) → IsStrict b → (n m : ℕ) → b n m ≡ true → (ms : List ℕ) → AllByRecursion (λ x. b x m ≡ false) ms
    → AllByRecursion (λ x. b x n ≡ false) ms
all_not_before b o n m is [] all = all
all_not_before b o n m is (x ∷ ms) all = (not_before b o n m x is all.0, all_not_before b o n m is ms all.1)

put_rises : (b : ℕ → ℕ → Bool) → IsStrict b → (n : ℕ) (ms : List ℕ) → Rises b ms → Rises b (put_in b n ms)
put_rises b o n [] rises = (rises, rises)
put_rises b o n (m ∷ ms) rises =
    let Goal : Bool → Type 0 = λ test. b n m ≡ test → Rises b (if test then n ∷ m ∷ ms else m ∷ put_in b n ms) in
    elim (b n m) as Goal [
      | true ↦ λ is. ((o.asym n m is, all_not_before b o n m is ms rises.0), rises)
      | false ↦ λ is. (all_put (λ x. b x m ≡ false) b n ms is rises.0, put_rises b o n ms rises.1)
    ] refl

sorted_rises : (b : ℕ → ℕ → Bool) → IsStrict b → (ns : List ℕ) → Rises b (sorted b ns)
sorted_rises b o [] = tt
sorted_rises b o (n ∷ ns) = put_rises b o n (sorted b ns) (sorted_rises b o ns)

less_is : (o : Ordering) → is_lt o ≡ true → o ≡ Less
less_is Less is = refl
less_is Equal is = absurd cc
less_is Greater is = absurd cc

keys_are_strict : (s : Setting) (rules : List Rule) → IsStrict (is_before s rules)
keys_are_strict s rules =
    let R : List ℤ → List ℤ → Ordering = slice_cmp int_cmp in
    let o : IsTotalOrder R = lists_total int_cmp_total in
    let key : ℕ → List ℤ = key_in s rules in
    record {
      asym = λ x y is. ap is_lt (o.antisymm (key y) (key x) ∙ ap ordering_reverse (less_is (R (key x) (key y)) is));
      trans = λ x y z is later. ap is_lt (o.trans (key x) (key y) (key z) (less_is (R (key x) (key y)) is) (less_is (R (key y) (key z)) later));
    }

pub book_rises : (s : Setting) (rules : List Rule) (book : ℕ) → Rises (is_before s rules) (book_of s rules book)
unfolding book_of
book_rises s rules book = sorted_rises (is_before s rules) (keys_are_strict s rules) (listed_from book 0 rules)
