-- Rules that are handed in in another order stand in the same order.
use Rattle.std.proofs.Common.{◌≡◌, ◌∙◌, ap, sym, refl, ℕ, ◌+◌, ◌<◌, ◌≤◌, ℤ, pos, Bool, true, false, true≢false, nat_lt, cond, List, [], ◌∷◌, map, arith}
use Rattle.std.specs.Prelude.{◌==◌, ◌&&◌, Option, None, Some, slice_get, if◌then◌else◌}
use Rattle.std.specs.Cmp.{IsTotalOrder}
use Rattle.std.proofs.lemmas.Cmp.{int_cmp_total, lists_total}
use Rattle.std.specs.FinMap.{int_cmp-IsAntisymmetric, slice_cmp-IsAntisymmetric}
use Rattle.std.specs.Cmp.Lexicographic.{slice_cmp}
use Rattle.std.specs.List.{AllByRecursion}
use Rattle.std.specs.Ordering.{int_cmp, is_lt, ordering_reverse, ordering_then}
use Rattle.std.specs.declared.cmp.Ordering.{Ordering}
use Rattle.std.specs.declared.cmp.Ordering.TheVariants.{Less, Equal, Greater}
use Rattle.play_meaning.specs.Order.{Rises, aspects, grade, is_before, is_listed, is_of_book, key_at, key_by, key_in, minus, times}
use Rattle.play_meaning.specs.Rules.{InOrder, Listed, ListedFirst, ListedLast, Rule, Unlisted}
use Rattle.play_meaning.specs.Settings.{Setting}
use Rattle.rule_order.specs.Books.{IsInOrder}
use Rattle.rule_order.proofs.Uniqueness.{counted, held}
use Rattle.rule_order.specs.Handing.{AreTied, IsRenumbered, KeepsTies}
use Rattle.rule_order.proofs.EntryLemmas.{nat_same}

-- ---- each once

same_test : (a b c d : ℕ) (test other : Bool) → (a == b) ≡ test → (c == d) ≡ other → (a ≡ b → c ≡ d) → (c ≡ d → a ≡ b) → test ≡ other
same_test a b c d true true is so one two = refl
same_test a b c d true false is so one two = absurd (let same : c ≡ d = one (grind (arith, is)) in grind (arith, so, same))
same_test a b c d false true is so one two = absurd (let same : a ≡ b = two (grind (arith, so)) in grind (arith, is, same))
same_test a b c d false false is so one two = refl

times_renewed : (renewed old : ℕ → ℕ) → ((n : ℕ) → old (renewed n) ≡ n) → ((n : ℕ) → renewed (old n) ≡ n) → (k : ℕ) (ns : List ℕ) → times k (map renewed ns) ≡ times (old k) ns
times_renewed renewed old back forth k [] = refl
times_renewed renewed old back forth k (n ∷ ns) =
    let same : (renewed n == k) ≡ (n == old k) =
    same_test (renewed n) k n (old k) (renewed n == k) (n == old k) refl refl (λ is. sym (back n) ∙ ap old is) (λ is. ap renewed is ∙ forth k) in
    λ i. (if same i then 1 else 0) + times_renewed renewed old back forth k ns i

-- ---- keys without numbers

-- five comparisons, and what is compared behind them
abbrev chain : Ordering → Ordering → Ordering → Ordering → Ordering → Ordering → Ordering
chain a b c d e last = ordering_then a (ordering_then b (ordering_then c (ordering_then d (ordering_then e last))))

-- unless all are equal, what is compared behind them doesn't matter
decided : (a b c d e last other : Ordering) → (chain a b c d e Equal ≡ Equal → ⊥) → chain a b c d e last ≡ chain a b c d e other
decided Less b c d e last other apart = refl
decided Greater b c d e last other apart = refl
decided Equal Less c d e last other apart = refl
decided Equal Greater c d e last other apart = refl
decided Equal Equal Less d e last other apart = refl
decided Equal Equal Greater d e last other apart = refl
decided Equal Equal Equal Less e last other apart = refl
decided Equal Equal Equal Greater e last other apart = refl
decided Equal Equal Equal Equal Less last other apart = refl
decided Equal Equal Equal Equal Greater last other apart = refl
decided Equal Equal Equal Equal Equal last other apart = absurd (apart refl)

-- where all are equal, it alone does
tied : (a b c d e last : Ordering) → chain a b c d e Equal ≡ Equal → chain a b c d e last ≡ last
tied Less b c d e last is = absurd cc
tied Greater b c d e last is = absurd cc
tied Equal Less c d e last is = absurd cc
tied Equal Greater c d e last is = absurd cc
tied Equal Equal Less d e last is = absurd cc
tied Equal Equal Greater d e last is = absurd cc
tied Equal Equal Equal Less e last is = absurd cc
tied Equal Equal Equal Greater e last is = absurd cc
tied Equal Equal Equal Equal Less last is = absurd cc
tied Equal Equal Equal Equal Greater last is = absurd cc
tied Equal Equal Equal Equal Equal last is = refl

-- how specific two rules are, compared; and their keys, with what is compared of their numbers
abbrev fronts : Setting → Rule → Rule → Ordering
fronts s rule other = slice_cmp int_cmp (key_by s 0 rule InOrder) (key_by s 0 other InOrder)

abbrev compared : Setting → Rule → Rule → Ordering → Ordering
compared s rule other last =
    chain Equal (int_cmp (minus (aspects rule)) (minus (aspects other))) (int_cmp (minus (grade s rule.noun)) (minus (grade s other.noun)))
    (int_cmp (minus (grade s rule.second)) (minus (grade s other.second))) (int_cmp (minus (grade s rule.place)) (minus (grade s other.place))) last

abbrev numbers : ℕ → ℕ → Ordering
numbers m n = ordering_then (int_cmp (pos m) (pos n)) Equal

then_not_less : (test : Bool) → is_lt (ordering_then (cond test Greater Equal) Equal) ≡ false
then_not_less true = refl
then_not_less false = refl

above : (m n : ℕ) (same : Bool) → (m == n) ≡ same → (more : Bool) → nat_lt n m ≡ more → nat_lt m n ≡ false → (m ≡ n → ⊥) → n < m
above m n true is more so isnt differ = absurd (differ (grind (arith, is)))
above m n false is true so isnt differ = grind (arith, so)
above m n false is false so isnt differ = absurd (grind (arith, is, so, isnt))

rose : (m n : ℕ) (test : Bool) → nat_lt m n ≡ test → n < m → is_lt (ordering_then (cond test Less (cond (nat_lt n m) Greater Equal)) Equal) ≡ false
rose m n true is low = absurd (grind (arith, is, low))
rose m n false is low = then_not_less (nat_lt n m)

fell : (m n : ℕ) (test : Bool) → nat_lt m n ≡ test → is_lt (ordering_then (cond test Less (cond (nat_lt n m) Greater Equal)) Equal) ≡ false → (m ≡ n → ⊥) → n < m
fell m n true is h differ = absurd (true≢false h)
fell m n false is h differ = above m n (m == n) refl (nat_lt n m) refl is differ

-- ---- two rules

apart : (s : Setting) (rule other : Rule) (last next : Ordering) → (fronts s rule other ≡ Equal → ⊥) → compared s rule other last ≡ compared s rule other next
apart s rule other last next differ =
    decided Equal (int_cmp (minus (aspects rule)) (minus (aspects other))) (int_cmp (minus (grade s rule.noun)) (minus (grade s other.noun)))
    (int_cmp (minus (grade s rule.second)) (minus (grade s other.second))) (int_cmp (minus (grade s rule.place)) (minus (grade s other.place))) last next differ

numbers_rise : (m n : ℕ) → n < m → is_lt (numbers m n) ≡ false
numbers_rise m n low = rose m n (nat_lt m n) refl low

falls : (m n : ℕ) → is_lt (numbers m n) ≡ false → (m ≡ n → ⊥) → n < m
falls m n is differ = fell m n (nat_lt m n) refl is differ

-- of two rules in order the second doesn't go before the first by their new numbers either
more_than : Greater ≡ Equal → ⊥
more_than is = cc

unlike : Less ≡ Equal → ⊥
unlike is = cc

pair_kept : (s : Setting) (m n i j : ℕ) (rule other : Rule) → (m ≡ n → ⊥) → (AreTied s rule other → n < m → j < i) → (front : Ordering) → fronts s rule other ≡ front
    → is_lt (compared s rule other (numbers m n)) ≡ false → is_lt (compared s rule other (numbers i j)) ≡ false
pair_kept s m n i j rule other differ keeps Equal is h =
    let behind : (last : Ordering) → compared s rule other last ≡ last = λ last. tied Equal (int_cmp (minus (aspects rule)) (minus (aspects other)))
    (int_cmp (minus (grade s rule.noun)) (minus (grade s other.noun))) (int_cmp (minus (grade s rule.second)) (minus (grade s other.second)))
    (int_cmp (minus (grade s rule.place)) (minus (grade s other.place))) last is in
    let one : AreTied s rule other = slice_cmp-IsAntisymmetric int_cmp-IsAntisymmetric (key_by s 0 rule InOrder) (key_by s 0 other InOrder) is in
    ap is_lt (behind (numbers i j)) ∙ numbers_rise i j (keeps one (falls m n (sym (ap is_lt (behind (numbers m n))) ∙ h) differ))
pair_kept s m n i j rule other differ keeps Less is h = ap is_lt (apart s rule other (numbers i j) (numbers m n) (λ equal. unlike (sym is ∙ equal))) ∙ h
pair_kept s m n i j rule other differ keeps Greater is h = ap is_lt (apart s rule other (numbers i j) (numbers m n) (λ equal. more_than (sym is ∙ equal))) ∙ h

-- ---- in order

not_less : (o : Ordering) → o ≡ ordering_reverse o → is_lt o ≡ false
not_less Less turned = absurd cc
not_less Equal turned = refl
not_less Greater turned = refl

never_before : (s : Setting) (rules : List Rule) (n : ℕ) → is_before s rules n n ≡ false
never_before s rules n =
    let o : IsTotalOrder (slice_cmp int_cmp) = lists_total int_cmp_total in
    let k : List ℤ = key_in s rules n in
    not_less (slice_cmp int_cmp k k) (o.antisymm k k)

-- the keys of two rules, however they are listed
keys_kept : (s : Setting) (m n i j : ℕ) (rule other : Rule) (l k : Listed) → (m ≡ n → ⊥) → (l ≡ InOrder → k ≡ InOrder → AreTied s rule other → n < m → j < i)
    → is_lt (slice_cmp int_cmp (key_by s m rule l) (key_by s n other k)) ≡ false → is_lt (slice_cmp int_cmp (key_by s i rule l) (key_by s j other k)) ≡ false
keys_kept s m n i j rule other InOrder InOrder differ keeps h = pair_kept s m n i j rule other differ (keeps refl refl) (fronts s rule other) refl h
keys_kept s m n i j rule other InOrder (ListedFirst y) differ keeps h = h
keys_kept s m n i j rule other InOrder (ListedLast y) differ keeps h = h
keys_kept s m n i j rule other InOrder Unlisted differ keeps h = h
keys_kept s m n i j rule other (ListedFirst x) InOrder differ keeps h = h
keys_kept s m n i j rule other (ListedFirst x) (ListedFirst y) differ keeps h = h
keys_kept s m n i j rule other (ListedFirst x) (ListedLast y) differ keeps h = h
keys_kept s m n i j rule other (ListedFirst x) Unlisted differ keeps h = h
keys_kept s m n i j rule other (ListedLast x) InOrder differ keeps h = h
keys_kept s m n i j rule other (ListedLast x) (ListedFirst y) differ keeps h = h
keys_kept s m n i j rule other (ListedLast x) (ListedLast y) differ keeps h = h
keys_kept s m n i j rule other (ListedLast x) Unlisted differ keeps h = h
keys_kept s m n i j rule other Unlisted InOrder differ keeps h = h
keys_kept s m n i j rule other Unlisted (ListedFirst y) differ keeps h = h
keys_kept s m n i j rule other Unlisted (ListedLast y) differ keeps h = h
keys_kept s m n i j rule other Unlisted Unlisted differ keeps h = h

-- two numbers of a rulebook, and the rules that stand there
same_book : (a b : ℕ) (listed : Bool) → ((a == b) && listed) ≡ true → a ≡ b
same_book a b listed is = so a b listed (a == b) refl is
  where
    so : (a b : ℕ) (listed test : Bool) → (a == b) ≡ test → (test && listed) ≡ true → a ≡ b
    so a b listed true one is = grind (arith, one)
    so a b listed false one is = absurd cc

more_times : (k n : ℕ) (ns : List ℕ) (test : Bool) → (n == k) ≡ test → times k ns ≤ times k (n ∷ ns)
more_times k n ns true is = omega (arith, counted k n ns true is)
more_times k n ns false is = omega (arith, counted k n ns false is)

-- what is so of each number that stands in a list is so of all
all_counted : (P : ℕ → Type 0) (ns : List ℕ) → ((k : ℕ) → 0 < times k ns → P k) → AllByRecursion P ns
all_counted P [] each = tt
all_counted P (n ∷ ns) each =
    (each n (omega (arith, counted n n ns true (grind arith))), all_counted P ns (λ k there. each k (omega (arith, there, more_times k n ns (n == k) refl))))

unequal : (m n : ℕ) → (m == n) ≡ false → m ≡ n → ⊥
unequal m n two same = grind (arith, two, same)

rule_of : (book n : ℕ) (rules : List Rule) (o : Option Rule) → slice_get rules n ≡ o → is_of_book book o ≡ true → (rule : Rule) × ((slice_get rules n ≡ Some rule) × (rule.book ≡ book))
rule_of book n rules None at is = absurd cc
rule_of book n rules (Some rule) at is = (rule, (at, same_book rule.book book (is_listed rule.listed) is))

module _ (s : Setting) (rules others : List Rule) (renewed old : ℕ → ℕ) (is : IsRenumbered renewed old rules others) (keeps : KeepsTies s rules renewed) (book : ℕ) where
  abbrev IsOf : ℕ → Type 0
  IsOf n = is_of_book book (slice_get rules n) ≡ true

  not_before : (m n : ℕ) → IsOf m → IsOf n → (test : Bool) → (m == n) ≡ test → is_before s rules m n ≡ false → is_before s others (renewed m) (renewed n) ≡ false
  not_before m n of_m of_n true one h =
      let same : m ≡ n = nat_same m n one in
      ap (λ k. is_before s others (renewed m) (renewed k)) (sym same) ∙ never_before s others (renewed m)
  not_before m n of_m of_n false two h =
      let differ : m ≡ n → ⊥ = unequal m n two in
      let first = rule_of book m rules (slice_get rules m) refl of_m in
      let second = rule_of book n rules (slice_get rules n) refl of_n in
      let a : Rule = first.0 in
      let b : Rule = second.0 in
      let by_rules : is_lt (slice_cmp int_cmp (key_by s m a a.listed) (key_by s n b b.listed)) ≡ false =
      sym (ap is_lt (λ i. slice_cmp int_cmp (key_at s m (first.1.0 i)) (key_at s n (second.1.0 i)))) ∙ h in
      ap is_lt (λ i. slice_cmp int_cmp (key_at s (renewed m) ((is.there m ∙ first.1.0) i)) (key_at s (renewed n) ((is.there n ∙ second.1.0) i)))
      ∙ keys_kept s m n (renewed m) (renewed n) a b a.listed b.listed differ
      (λ in_order too tie low. keeps n m b a second.1.0 first.1.0 (second.1.1 ∙ sym first.1.1) too in_order (sym tie) low) by_rules

  all_not_before : (n : ℕ) (ms : List ℕ) → IsOf n → AllByRecursion IsOf ms → AllByRecursion (λ m. is_before s rules m n ≡ false) ms → AllByRecursion (λ m. is_before s others m (renewed n) ≡ false) (map renewed ms)
  all_not_before n [] of_n of_all all = tt
  all_not_before n (m ∷ ms) of_n of_all all = (not_before m n of_all.0 of_n (m == n) refl all.0, all_not_before n ms of_n of_all.1 all.1)

  rises_renewed : (ns : List ℕ) → AllByRecursion IsOf ns → Rises (is_before s rules) ns → Rises (is_before s others) (map renewed ns)
  rises_renewed [] of_all rises = tt
  rises_renewed (n ∷ ns) of_all rises = (all_not_before n ns of_all.0 of_all.1 rises.0, rises_renewed ns of_all.1 rises.1)

  pub order_renewed : (ns : List ℕ) → IsInOrder s rules book ns → IsInOrder s others book (map renewed ns)
  order_renewed ns order = record {
    exactly = λ k.
        times_renewed renewed old is.back is.forth k ns ∙ order.exactly (old k)
        ∙ ap (λ (o : Option Rule). if is_of_book book o then 1 else 0) (sym (is.there (old k)) ∙ ap (slice_get others) (is.forth k));
    rising = rises_renewed ns (all_counted IsOf ns (λ k there. held s rules book k ns order there)) order.rising;
  }
