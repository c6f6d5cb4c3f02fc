-- Sorted entries tell their rulebooks' rules in order.
use Rattle.std.proofs.Common.{◌≡◌, ◌∙◌, ap, sym, refl, ℕ, suc, ◌+◌, ◌<◌, ◌≤◌, Bool, true, false, List, [], ◌∷◌, length, get_or, arith}
use Rattle.std.specs.Prelude.{◌==◌, IsPermutation, IsSortedBy, if◌then◌else◌}
use Rattle.std.specs.Cmp.Lexicographic.{slice_cmp}
use Rattle.std.specs.List.{AllByRecursion, sum_by}
use Rattle.std.specs.Ordering.{int_cmp, is_lt, nat_cmp, ordering_then}
use Rattle.std.specs.declared.cmp.Ordering.{Ordering}
use Rattle.std.specs.declared.cmp.Ordering.TheVariants.{Less, Equal, Greater}
use Rattle.std.proofs.lemmas.List.Sorted.{ranks_by, sorted_far, sum_by-IsPermutation}
use Rattle.std.proofs.lemmas.List.Sums.{sum_by-cons}
use Rattle.play_meaning.specs.Order.{Rises, is_before, key_in, times}
use Rattle.play_meaning.specs.Rules.{Rule}
use Rattle.play_meaning.specs.Settings.{Setting}
use Rattle.rule_order.specs.Entries.{numbers_of}
use Rattle.rule_order.specs.KeyLists.{key_list}
use Rattle.rule_order.specs.contracts.entry.EntryOrd.TheImpl as ord
use Rattle.rule_order.specs.contracts.entry.EntryOrd.TheImpl.Laws as law
use Rattle.rule_order.specs.contracts.key.KeyOrd.TheImpl as key_ord
use Rattle.rule_order.specs.declared.entry.Entry.{Entry}
use Rattle.rule_order.proofs.KeyLemmas.{keys_alike, nat_equal}

-- ---- in order

abbrev pub goes_before : Entry → Entry → Bool
goes_before a b = is_lt ((ord.ghosts).cmp a b)

abbrev pub Rise : List Entry → Type 0
Rise [] = Unit {0}
Rise (e ∷ es) = AllByRecursion (λ m. goes_before m e ≡ false) es × Rise es

all_by : (P : Entry → Type 0) (es : List Entry) → ((j : ℕ) (d : Entry) → j < length es → P (get_or es j d)) → AllByRecursion P es
all_by P [] each = tt
all_by P (e ∷ es) each = (each 0 e (omega arith), all_by P es (λ j d in'. each (suc j) d (omega (arith, in'))))

rise_by : (es : List Entry) → ((i j : ℕ) (d : Entry) → i ≤ j → j < length es → goes_before (get_or es j d) (get_or es i d) ≡ false) → Rise es
rise_by [] far = tt
rise_by (e ∷ es) far = (
  all_by (λ m. goes_before m e ≡ false) es (λ j d in'. far 0 (suc j) d (omega arith) (omega (arith, in'))),
  rise_by es (λ i j d le in'. far (suc i) (suc j) d (omega (arith, le)) (omega (arith, in'))),
)

pub sorted_rise : (es : List Entry) → IsSortedBy goes_before es → Rise es
sorted_rise es sorted = rise_by es (λ i j d le in'. sorted_far goes_before (ranks_by law.total-law (λ e. e)) es sorted i j d le in')

-- ---- the rules of one rulebook

pub nat_same : (a b : ℕ) → (a == b) ≡ true → a ≡ b
nat_same a b is = grind (arith, is)

-- an entry has the key of its rule
abbrev pub IsEntryOf : Setting → List Rule → Entry → Type 0
IsEntryOf s rules e = key_in s rules e.number ≡ key_list e.key

behind_then : (o p : Ordering) → is_lt (ordering_then o p) ≡ false → is_lt o ≡ false
behind_then Less p is = is
behind_then Equal p is = refl
behind_then Greater p is = refl

-- of one rulebook the keys decide
by_keys : (a b : Entry) → a.book ≡ b.book → goes_before a b ≡ false → is_lt ((key_ord.ghosts).cmp a.key b.key) ≡ false
by_keys a b one is =
    let books : nat_cmp a.book b.book ≡ Equal = nat_equal a.book b.book one in
    let rest : Ordering = ordering_then ((key_ord.ghosts).cmp a.key b.key) (nat_cmp a.number b.number) in
    behind_then ((key_ord.ghosts).cmp a.key b.key) (nat_cmp a.number b.number) (sym (ap (λ o. is_lt (ordering_then o rest)) books) ∙ is)

not_before : (s : Setting) (rules : List Rule) (a b : Entry) → IsEntryOf s rules a → IsEntryOf s rules b → a.book ≡ b.book → goes_before a b ≡ false
    → is_before s rules a.number b.number ≡ false
not_before s rules a b of_a of_b one is =
    ap is_lt (λ i. slice_cmp int_cmp (of_a i) (of_b i)) ∙ ap is_lt (sym (keys_alike a.key b.key)) ∙ by_keys a b one is

not_before_all : (s : Setting) (rules : List Rule) (e : Entry) → IsEntryOf s rules e → (book : ℕ) → e.book ≡ book → (es : List Entry)
    → AllByRecursion (λ m. goes_before m e ≡ false) es → AllByRecursion (IsEntryOf s rules) es → AllByRecursion (λ m. is_before s rules m e.number ≡ false) (numbers_of book es)
not_before_all s rules e of_e book one [] all of_all = tt
not_before_all s rules e of_e book one (m ∷ es) all of_all =
    let Goal : Bool → Type 0 = λ test. (m.book == book) ≡ test → AllByRecursion (λ m. is_before s rules m e.number ≡ false) (if test then m.number ∷ numbers_of book es else numbers_of book es) in
    elim (m.book == book) as Goal [
      | true ↦ λ is. (not_before s rules m e of_all.0 of_e (nat_same m.book book is ∙ sym one) all.0, not_before_all s rules e of_e book one es all.1 of_all.1)
      | false ↦ λ is. not_before_all s rules e of_e book one es all.1 of_all.1
    ] refl

pub numbers_rise : (s : Setting) (rules : List Rule) (book : ℕ) (es : List Entry) → Rise es → AllByRecursion (IsEntryOf s rules) es → Rises (is_before s rules) (numbers_of book es)
numbers_rise s rules book [] rise of_all = tt
numbers_rise s rules book (e ∷ es) rise of_all =
    let Goal : Bool → Type 0 = λ test. (e.book == book) ≡ test → Rises (is_before s rules) (if test then e.number ∷ numbers_of book es else numbers_of book es) in
    elim (e.book == book) as Goal [
      | true ↦ λ is. (not_before_all s rules e of_all.0 book (nat_same e.book book is) es rise.0 of_all.1, numbers_rise s rules book es rise.1 of_all.1)
      | false ↦ λ is. numbers_rise s rules book es rise.1 of_all.1
    ] refl

-- ---- each once

-- how often an entry counts for a rule of a rulebook
abbrev pub counts : ℕ → ℕ → Entry → ℕ
counts book rule e = if e.book == book then (if e.number == rule then 1 else 0) else 0

times_counted : (book rule : ℕ) (es : List Entry) → times rule (numbers_of book es) ≡ sum_by (counts book rule) es
times_counted book rule [] = refl
times_counted book rule (e ∷ es) =
    let Goal : Bool → Type 0 = λ test. times rule (if test then e.number ∷ numbers_of book es else numbers_of book es) ≡ (if test then (if e.number == rule then 1 else 0) else 0) + sum_by (counts book rule) es in
    let rest : times rule (numbers_of book es) ≡ sum_by (counts book rule) es = times_counted book rule es in
    elim (e.book == book) as Goal [
      | true ↦ ap (λ n. (if e.number == rule then 1 else 0) + n) rest
      | false ↦ omega (arith, rest)
    ] ∙ sym (sum_by-cons (counts book rule) e es)

pub times_moved : (book rule : ℕ) (es fs : List Entry) → IsPermutation es fs → times rule (numbers_of book fs) ≡ times rule (numbers_of book es)
times_moved book rule es fs moved =
    times_counted book rule fs ∙ sum_by-IsPermutation (counts book rule) es fs moved ∙ sym (times_counted book rule es)
