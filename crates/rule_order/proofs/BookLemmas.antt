-- Rulebooks made one by one.
use Rattle.std.proofs.Common.{◌≡◌, ◌∙◌, ap, sym, refl, subst, ℕ, zero, suc, ◌+◌, ◌-◌, ◌<◌, ◌≤◌, Bool, true, false, List, [], ◌∷◌, ◌++◌, map, arith}
use Rattle.std.specs.Prelude.{◌==◌, max, IsPermutation, IsSortedBy, Option, slice_get, if◌then◌else◌}
use Rattle.std.specs.List.{AllByRecursion, range_with_len}
use Rattle.std.proofs.lemmas.List.{append_assoc}
use Rattle.std.proofs.lemmas.List.Elements.{All-from_recursion, recursion_from_All}
use Rattle.std.proofs.lemmas.List.Sorted.{All-permutation}
use Rattle.play_meaning.specs.Order.{Rises, is_before, times}
use Rattle.play_meaning.proofs.Ordering.{listed_times}
use Rattle.rule_order.specs.Books.{AreBooksOf, book_in}
use Rattle.rule_order.specs.Entries.{books_from, count_from, count_of, entries_from, numbers_of}
use Rattle.rule_order.specs.declared.entry.Entry.{Entry}
use Rattle.rule_order.specs.declared.heading.Heading.{Heading}
use Rattle.rule_order.proofs.EntryLemmas.{IsEntryOf, goes_before, numbers_rise, sorted_rise, times_moved}
use Rattle.rule_order.proofs.HeadingLemmas.{entries_alike, listed_alike}

pub one_more : {A : Type 0} (f : ℕ → A) (done : List A) (k n : ℕ) → k < n
    → (done ++ f k ∷ []) ++ map f (range_with_len (k + 1) (n - (k + 1))) ≡ done ++ map f (range_with_len k (n - k))
one_more f done k n more =
    let left : n - k ≡ suc (n - (k + 1)) = omega (arith, more) in
    append_assoc done (f k ∷ []) (map f (range_with_len (k + 1) (n - (k + 1)))) ∙ ap (λ m. done ++ map f (range_with_len k m)) (sym left)

-- ---- what the rulebooks of sorted entries are

no_fewer : (count : ℕ) (es : List Entry) → count ≤ count_from count es
no_fewer count [] = omega arith
no_fewer count (e ∷ es) = grind (arith, no_fewer (max count (e.book + 1)) es)

unlike : (a b : ℕ) (test : Bool) → (a == b) ≡ test → a < b → test ≡ false
unlike a b true is below = absurd (grind (arith, is, below))
unlike a b false is below = refl

-- none behind them lists a rule
none_behind : (count book : ℕ) (es : List Entry) → count_from count es ≤ book → numbers_of book es ≡ []
none_behind count book [] all = refl
none_behind count book (e ∷ es) all =
    let low : e.book < book = grind (arith, no_fewer (max count (e.book + 1)) es, all) in
    ap (λ test. if test then e.number ∷ numbers_of book es else numbers_of book es) (unlike e.book book (e.book == book) refl low) ∙ none_behind (max count (e.book + 1)) book es all

from_none : (a : ℕ) → a ≡ a + 0
from_none a = omega arith

one_on : (a b : ℕ) → (a + 1) + b ≡ a + suc b
one_on a b = omega arith

within : (f : ℕ → List ℕ) (a n b : ℕ) → ((k : ℕ) → a + n ≤ k → f k ≡ []) → book_in (map f (range_with_len a n)) b ≡ f (a + b)
within f a zero b none = sym (none (a + b) (omega arith))
within f a (suc n) zero none = ap f (from_none a)
within f a (suc n) (suc b) none = within f (a + 1) n b (λ k more. none k (omega (arith, more))) ∙ ap f (one_on a b)

pub from_zero : (a : ℕ) → 0 + a ≡ a
from_zero a = omega arith

pub told_book : (es : List Entry) (book : ℕ) → book_in (books_from es) book ≡ numbers_of book es
unfolding books_from
told_book es book = within (λ b. numbers_of b es) 0 (count_of es) book (λ k more. none_behind 0 k es (omega (arith, more))) ∙ ap (λ b. numbers_of b es) (from_zero book)

pub books_are : (kinds : List (Option ℕ)) (hs : List Heading) (es : List Entry) → IsPermutation (entries_from kinds 0 hs) es → IsSortedBy goes_before es
    → AreBooksOf kinds hs (books_from es)
books_are kinds hs es moved sorted s rules depths alike book =
    let same : book_in (books_from es) book ≡ numbers_of book es = told_book es book in
    let first : List Entry = entries_from kinds 0 hs in
    let of_first : AllByRecursion (IsEntryOf s rules) first = entries_alike s kinds depths rules 0 hs rules (λ j. ap (slice_get rules) (from_zero j)) alike in
    let of_all : AllByRecursion (IsEntryOf s rules) es =
    recursion_from_All (IsEntryOf s rules) es (All-permutation (IsEntryOf s rules) first es moved (All-from_recursion (IsEntryOf s rules) first of_first)) in
    record {
      exactly = λ rule. ap (times rule) same ∙ times_moved book rule first es moved ∙ ap (times rule) (listed_alike kinds 0 hs rules book alike) ∙ listed_times rules book rule;
      rising = subst (Rises (is_before s rules)) (sym same) (numbers_rise s rules book es (sorted_rise es sorted) of_all);
    }
