-- A rulebook has one order where no sentence lists two rules: two of its rules never have one key.
use Rattle.std.proofs.Common.{◌≡◌, ◌∙◌, ap, sym, subst, refl, ℕ, zero, suc, ◌+◌, ◌<◌, ℤ, Bool, true, false, List, [], ◌∷◌, arith}
use Rattle.std.specs.Prelude.{◌==◌, ◌&&◌, Option, None, Some, nat_abs, slice_get, if◌then◌else◌}
use Rattle.std.specs.FinMap.{int_cmp-IsAntisymmetric, slice_cmp-IsAntisymmetric}
use Rattle.std.specs.Cmp.{IsTotalOrder}
use Rattle.std.specs.Cmp.Lexicographic.{slice_cmp}
use Rattle.std.proofs.lemmas.Cmp.{int_cmp_total, lists_total}
use Rattle.std.specs.List.{AllByRecursion}
use Rattle.std.specs.Ordering.{int_cmp, is_lt, ordering_reverse}
use Rattle.std.specs.declared.cmp.Ordering.{Ordering}
use Rattle.std.specs.declared.cmp.Ordering.TheVariants.{Less, Equal, Greater}
use Rattle.play_meaning.specs.Order.{Rises, book_of, is_before, is_listed, is_of_book, key_at, key_by, key_in, minus, times}
use Rattle.play_meaning.specs.Rules.{InOrder, Listed, ListedFirst, ListedLast, Rule, Unlisted}
use Rattle.play_meaning.specs.Settings.{Setting}
use Rattle.rule_order.specs.Books.{AreListedApart, IsInOrder, sentence_of}
use Rattle.play_meaning.proofs.Ordering.{book_rises, book_times}

-- ---- lists that rise

pub counted : (k n : ℕ) (ns : List ℕ) (test : Bool) → (n == k) ≡ test → times k (n ∷ ns) ≡ (if test then 1 else 0) + times k ns
counted k n ns test is = ap (λ t. (if t then 1 else 0) + times k ns) is

all_at : (P : ℕ → Type 0) (k : ℕ) (ns : List ℕ) → AllByRecursion P ns → 0 < times k ns → P k
all_at P k [] all there = absurd (omega (arith, there))
all_at P k (n ∷ ns) all there =
    let Goal : Bool → Type 0 = λ test. (n == k) ≡ test → P k in
    elim (n == k) as Goal [
      | true ↦ λ is. subst P (grind (arith, is)) all.0
      | false ↦ λ is. all_at P k ns all.1 (omega (arith, there, counted k n ns false is))
    ] refl

-- two numbers of which neither goes before the other are one
abbrev AreApart : (ℕ → ℕ → Bool) → List ℕ → Type 0
AreApart b ns = (m n : ℕ) → 0 < times m ns → 0 < times n ns → b m n ≡ false → b n m ≡ false → m ≡ n

itself : (n : ℕ) (ns : List ℕ) → 0 < times n (n ∷ ns)
itself n ns = omega (arith, counted n n ns true (grind arith))

heads : (b : ℕ → ℕ → Bool) (x y : ℕ) (xs ys : List ℕ) → ((k : ℕ) → times k (x ∷ xs) ≡ times k (y ∷ ys)) → AreApart b (x ∷ xs)
    → Rises b (x ∷ xs) → Rises b (y ∷ ys) → (test : Bool) → (x == y) ≡ test → x ≡ y
heads b x y xs ys same apart rises others true is = grind (arith, is)
heads b x y xs ys same apart rises others false is =
    let other : (y == x) ≡ false = grind (arith, is) in
    let behind_x : 0 < times y xs = omega (arith, same y, itself y ys, counted y x xs false is) in
    let behind_y : 0 < times x ys = omega (arith, same x, itself x xs, counted x y ys false other) in
    apart x y (itself x xs) (omega (arith, same y, itself y ys)) (all_at (λ m. b m y ≡ false) x ys others.0 behind_y) (all_at (λ m. b m x ≡ false) y xs rises.0 behind_x)

one_list : (b : ℕ → ℕ → Bool) (xs ys : List ℕ) → ((k : ℕ) → times k xs ≡ times k ys) → AreApart b xs → Rises b xs → Rises b ys → xs ≡ ys
one_list b [] [] same apart rises others = refl
one_list b [] (y ∷ ys) same apart rises others = absurd (omega (arith, same y, itself y ys))
one_list b (x ∷ xs) [] same apart rises others = absurd (omega (arith, same x, itself x xs))
one_list b (x ∷ xs) (y ∷ ys) same apart rises others =
    let head : x ≡ y = heads b x y xs ys same apart rises others (x == y) refl in
    let tails : (k : ℕ) → times k xs ≡ times k ys = λ k. omega (arith, same k, ap (λ n. times k (n ∷ ys)) head) in
    let rest : xs ≡ ys = one_list b xs ys tails (λ m n at_m at_n. apart m n (omega (arith, at_m)) (omega (arith, at_n))) rises.1 others.1 in
    λ i. head i ∷ rest i

-- ---- keys that are one

same_key : (xs ys : List ℤ) → slice_cmp int_cmp xs ys ≡ Equal → xs ≡ ys
same_key = slice_cmp-IsAntisymmetric int_cmp-IsAntisymmetric

neither : (o p : Ordering) → o ≡ ordering_reverse p → is_lt o ≡ false → is_lt p ≡ false → o ≡ Equal
neither Less p turned is other = absurd cc
neither Equal p turned is other = refl
neither Greater Less turned is other = absurd cc
neither Greater Equal turned is other = absurd cc
neither Greater Greater turned is other = absurd cc

keys_same : (s : Setting) (rules : List Rule) (m n : ℕ) → is_before s rules m n ≡ false → is_before s rules n m ≡ false → key_in s rules m ≡ key_in s rules n
keys_same s rules m n one other =
    let o : IsTotalOrder (slice_cmp int_cmp) = lists_total int_cmp_total in
    let j : List ℤ = key_in s rules m in
    let k : List ℤ = key_in s rules n in
    same_key j k (neither (slice_cmp int_cmp j k) (slice_cmp int_cmp k j) (o.antisymm j k) one other)

-- what two keys differ in: their sorts, their sentences, or their numbers
abbrev sort_in : List ℤ → ℕ
sort_in [] = 3
sort_in (x ∷ xs) = nat_abs x

abbrev sentence_in : List ℤ → ℕ
sentence_in (x ∷ y ∷ xs) = nat_abs y
sentence_in _ = 0

abbrev number_in : List ℤ → ℕ
number_in (a ∷ b ∷ c ∷ d ∷ e ∷ n ∷ more) = nat_abs n
number_in _ = 0

minus_abs : (n : ℕ) → nat_abs (minus n) ≡ n
minus_abs zero = refl
minus_abs (suc n) = refl

numbers_same : (s : Setting) (rules : List Rule) → AreListedApart rules → (m n : ℕ) (rule other : Rule) → slice_get rules m ≡ Some rule → slice_get rules n ≡ Some other
    → (l k : Listed) → rule.listed ≡ l → other.listed ≡ k → is_listed l ≡ true → is_listed k ≡ true → key_by s m rule l ≡ key_by s n other k → m ≡ n
numbers_same s rules apart m n rule other at_m at_n InOrder InOrder is so listed too same = ap number_in same
numbers_same s rules apart m n rule other at_m at_n InOrder (ListedFirst j) is so listed too same =
    let sorts : 1 ≡ 0 = ap sort_in same in absurd (omega (arith, sorts))
numbers_same s rules apart m n rule other at_m at_n InOrder (ListedLast j) is so listed too same =
    let sorts : 1 ≡ 2 = ap sort_in same in absurd (omega (arith, sorts))
numbers_same s rules apart m n rule other at_m at_n (ListedFirst i) InOrder is so listed too same =
    let sorts : 0 ≡ 1 = ap sort_in same in absurd (omega (arith, sorts))
numbers_same s rules apart m n rule other at_m at_n (ListedFirst i) (ListedFirst j) is so listed too same =
    let sentences : i ≡ j = sym (minus_abs i) ∙ ap sentence_in same ∙ minus_abs j in
    apart m n rule other i at_m at_n (ap sentence_of is) (ap sentence_of so ∙ ap Some (sym sentences))
numbers_same s rules apart m n rule other at_m at_n (ListedFirst i) (ListedLast j) is so listed too same =
    let sorts : 0 ≡ 2 = ap sort_in same in absurd (omega (arith, sorts))
numbers_same s rules apart m n rule other at_m at_n (ListedLast i) InOrder is so listed too same =
    let sorts : 2 ≡ 1 = ap sort_in same in absurd (omega (arith, sorts))
numbers_same s rules apart m n rule other at_m at_n (ListedLast i) (ListedFirst j) is so listed too same =
    let sorts : 2 ≡ 0 = ap sort_in same in absurd (omega (arith, sorts))
numbers_same s rules apart m n rule other at_m at_n (ListedLast i) (ListedLast j) is so listed too same =
    let sentences : i ≡ j = ap sentence_in same in
    apart m n rule other i at_m at_n (ap sentence_of is) (ap sentence_of so ∙ ap Some (sym sentences))
numbers_same s rules apart m n rule other at_m at_n Unlisted k is so listed too same = absurd cc
numbers_same s rules apart m n rule other at_m at_n l Unlisted is so listed too same = absurd cc

-- ---- one order

both_so : (a b : Bool) → (a && b) ≡ true → b ≡ true
both_so true b is = is
both_so false b is = absurd cc

is_there : (o : Option Rule) (book : ℕ) → is_of_book book o ≡ true → (rule : Rule) × ((o ≡ Some rule) × (is_listed rule.listed ≡ true))
is_there None book is = absurd cc
is_there (Some rule) book is = (rule, (refl, both_so (rule.book == book) (is_listed rule.listed) is))

pub held : (s : Setting) (rules : List Rule) (book n : ℕ) (ns : List ℕ) → IsInOrder s rules book ns → 0 < times n ns → is_of_book book (slice_get rules n) ≡ true
held s rules book n ns order there =
    let count : Bool → ℕ = λ test. if test then 1 else 0 in
    let Goal : Bool → Type 0 = λ test. is_of_book book (slice_get rules n) ≡ test → is_of_book book (slice_get rules n) ≡ true in
    elim (is_of_book book (slice_get rules n)) as Goal [
      | true ↦ λ is. is
      | false ↦ λ is. (let none : times n ns ≡ 0 = order.exactly n ∙ ap count is in absurd (omega (arith, there, none)))
    ] refl

pub apart_in : (s : Setting) (rules : List Rule) → AreListedApart rules → (book : ℕ) (ns : List ℕ) → IsInOrder s rules book ns → AreApart (is_before s rules) ns
apart_in s rules apart book ns order m n at_m at_n one other =
    let a = is_there (slice_get rules m) book (held s rules book m ns order at_m) in
    let b = is_there (slice_get rules n) book (held s rules book n ns order at_n) in
    numbers_same s rules apart m n a.0 b.0 a.1.0 b.1.0 a.0.listed b.0.listed refl refl a.1.1 b.1.1
    (sym (ap (key_at s m) a.1.0) ∙ keys_same s rules m n one other ∙ ap (key_at s n) b.1.0)

pub one_order : (s : Setting) (rules : List Rule) (book : ℕ) (ns ms : List ℕ) → AreListedApart rules → IsInOrder s rules book ns → IsInOrder s rules book ms → ns ≡ ms
one_order s rules book ns ms apart order other =
    one_list (is_before s rules) ns ms (λ k. order.exactly k ∙ sym (other.exactly k)) (apart_in s rules apart book ns order) order.rising other.rising

pub consulted : (s : Setting) (rules : List Rule) (book : ℕ) (ns : List ℕ) → AreListedApart rules → IsInOrder s rules book ns → ns ≡ book_of s rules book
consulted s rules book ns apart order =
    one_order s rules book ns (book_of s rules book) apart order (record { exactly = book_times s rules book; rising = book_rises s rules book })
