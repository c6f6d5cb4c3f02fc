-- The books of a tale list rules of their own, each once, in the order in which they are asked.
use Rattle.std.proofs.Common.{◌≡◌, ◌∙◌, ap, sym, subst, refl, ℕ, zero, suc, ◌+◌, ◌<◌, ◌≤◌, Bool, true, false, cond, not, ltb, eqb, List, [], ◌∷◌, ◌++◌, length, map, Some, None, inl, inr, arith, length-append}
use Rattle.std.specs.Prelude.{slice_get}
use Rattle.std.specs.List.{AllZip, list_all, range_with_len}
use Rattle.std.proofs.lemmas.Bool.{eqb-true, eq-eqb, ltb-true, ltb-false, lt-ltb, ne_eqb, cases_Bool, and_from, and_parts}
use Rattle.std.proofs.lemmas.List.{length-map}
use Rattle.std.proofs.lemmas.List.Folds.{list_all-append}
use Rattle.std.proofs.lemmas.List.FromFn.{length-map-range_with_len}
use Rattle.std.proofs.lemmas.Option.{slice_get_past}
use Rattle.world_meaning.specs.Declarations.{is_among}
use Rattle.world_meaning.specs.declared.tale.Tale.{Tale}
use Rattle.play_meaning.specs.Order.{book_of, is_before, is_of_book, listed_from, put_in, sorted, times}
use Rattle.play_meaning.specs.Rules.{Rule}
use Rattle.play_meaning.specs.Settings.{Setting}
use Rattle.play_meaning.specs.Tales.{setting_of}
use Rattle.play_meaning.proofs.Ordering.{book_times}
use Rattle.play_meaning.specs.StandardRules.{standard_rules}
use Rattle.rule_order.specs.Books.{AreBooksOf, AreListedApart, book_in}
use Rattle.rule_order.specs.Headings.{IsRuleOf}
use Rattle.rule_order.specs.declared.heading.Heading.{Heading}
use Rattle.rule_order.specs.OrderLaws.{IsConsultedSo}
use Rattle.rule_order.specs.declared.listing.ListingSentence.{ListingSentence}
use Rattle.story_format.specs.BookRules.{is_of, list_their_own, lists_its_own}
use Rattle.story_format.specs.Facts.{rules_in}
use Rattle.story_format.specs.Holding.{Named, is_of as of_named}
use Rattle.story_format.specs.Layout.{book_layout}
use Rattle.story_format.specs.Making.{books_of, story_rules}
use Rattle.story_format.specs.RuleChecks.{lists_what_is_there}
use Rattle.story_format.specs.RuleHeadings.{Headed, heading_meant, heading_of}
use Rattle.story_format.specs.RuleMaking.{all_entries, book_count, rule_count, rule_entries, standard_entries, standard_from}
use Rattle.story_format.specs.Sizes.{are_different}
use Rattle.story_format.specs.declared.rule_entry.RuleEntry.{RuleEntry}
use Rattle.story_format.specs.declared.rule_tables.Book.{Book}
use Rattle.story_format.proofs.AboutRules.{named_parts}
use Rattle.story_format.proofs.DeclaredLemmas.{step_few}
use Rattle.story_format.proofs.ListedRules.{all_listed, count_listed, zip_listed}
use Rattle.story_format.proofs.StandardRuleRows.{all_bare, bare_is, is_bare, standard_count, zip_append}

-- ---- what is so of each number that stands in a list

stands_first : (n : ℕ) (ns : List ℕ) → 1 ≤ times n (n ∷ ns)
stands_first n ns = let same : eqb n n ≡ true = eq-eqb n n refl in rw same (omega arith)

stands_behind : (k n : ℕ) (ns : List ℕ) → times k ns ≤ times k (n ∷ ns)
stands_behind k n ns =
    elim (cases_Bool (eqb n k)) [
      | inl same ↦ rw same (omega arith)
      | inr other ↦ rw other (omega arith)
    ]

all_standing : (p : ℕ → Bool) (ns : List ℕ) → ((k : ℕ) → 1 ≤ times k ns → p k ≡ true) → list_all p ns ≡ true
all_standing p [] so = refl
all_standing p (n ∷ ns) so = and_from (p n) (list_all p ns) (so n (stands_first n ns)) (all_standing p ns (λ k there. so k (omega (arith, there, stands_behind k n ns))))

among_stands : (k : ℕ) (ns : List ℕ) → is_among k ns ≡ true → 1 ≤ times k ns
among_stands k [] h = absurd cc
among_stands k (n ∷ ns) h =
    elim (cases_Bool (eqb k n)) [
      | inl same ↦ subst (λ m. 1 ≤ times k (m ∷ ns)) (eqb-true k n same) (stands_first k ns)
      | inr other ↦ let later : is_among k ns ≡ true = rw other at h in omega (arith, among_stands k ns later, stands_behind k n ns)
    ]

twice_first : (n : ℕ) (ns : List ℕ) → times n (n ∷ ns) ≡ 1 + times n ns
twice_first n ns = let same : eqb n n ≡ true = eq-eqb n n refl in rw same refl

once_different : (ns : List ℕ) → ((k : ℕ) → times k ns ≤ 1) → are_different ns ≡ true
unfolding are_different
once_different [] once = refl
once_different (n ∷ ns) once =
    and_from (not (is_among n ns)) (are_different ns) (
    elim (cases_Bool (is_among n ns)) [
      | inl again ↦ absurd (omega (arith, among_stands n ns again, twice_first n ns, once n))
      | inr alone ↦ ap not alone
    ]
    ) (once_different ns (λ k. omega (arith, once k, stands_behind k n ns)))

-- ---- a book's numbers

is_then : (b : Bool) → 1 ≤ cond b 1 0 → b ≡ true
is_then true h = refl
is_then false h = absurd (omega (arith, h))

module _ (s : Setting) (rules : List Rule) (book : ℕ) where
  numbers_once : are_different (book_of s rules book) ≡ true
  numbers_once = once_different (book_of s rules book) (λ k. omega (arith, book_times s rules book k, step_few (is_of_book book (slice_get rules k))))

  stands_so : (k : ℕ) → 1 ≤ times k (book_of s rules book) → is_of_book book (slice_get rules k) ≡ true
  stands_so k there = is_then (is_of_book book (slice_get rules k)) (omega (arith, there, book_times s rules book k))

found_below : (book k : ℕ) (rules : List Rule) → is_of_book book (slice_get rules k) ≡ true → k < length rules
found_below book k [] h = absurd cc
found_below book zero (rule ∷ rules) h = omega arith
found_below book (suc k) (rule ∷ rules) h = omega (arith, found_below book k rules h)

-- an entry for each rule, of its book
abbrev pub HaveBooks : List RuleEntry → List Rule → Type 0
HaveBooks entries rules = AllZip (λ entry rule. entry.book ≡ rule.book) entries rules

own_entry : (entries : List RuleEntry) (rules : List Rule) (book k : ℕ) → HaveBooks entries rules → is_of_book book (slice_get rules k) ≡ true → is_of book (slice_get entries k) ≡ true
own_entry [] [] book k same h = absurd cc
own_entry [] (rule ∷ rules) book k same h = absurd same
own_entry (entry ∷ entries) [] book k same h = absurd same
own_entry (entry ∷ entries) (rule ∷ rules) book zero same h = ap (λ n. eqb n book) same.0 ∙ (and_parts (eqb rule.book book) _ h).0
own_entry (entry ∷ entries) (rule ∷ rules) book (suc k) same h = own_entry entries rules book k same.1 h

-- ---- all books

abbrev listing : Setting → List Rule → ℕ → Book
listing s rules book = record { rules = book_of s rules book }

module _ (s : Setting) (rules : List Rule) where
  pub there : (count : ℕ) → length rules ≡ count → (books : List ℕ) → list_all (lists_what_is_there count) (map (listing s rules) books) ≡ true
  there count many [] = refl
  there count many (book ∷ books) =
      and_from (lists_what_is_there count (listing s rules book)) (list_all (lists_what_is_there count) (map (listing s rules) books))
      (all_standing (λ rule. ltb rule count) (book_of s rules book) (λ k stands. lt-ltb k count (omega (arith, many, found_below book k rules (stands_so s rules book k stands)))))
      (there count many books)

  pub own : (entries : List RuleEntry) → HaveBooks entries rules → (first count : ℕ) → list_their_own entries first (map (listing s rules) (range_with_len first count)) ≡ true
  unfolding list_their_own lists_its_own
  own entries same first zero = refl
  own entries same first (suc count) =
      and_from (lists_its_own entries first (listing s rules first)) (list_their_own entries (first + 1) (map (listing s rules) (range_with_len (first + 1) count)))
      (and_from (are_different (book_of s rules first)) (list_all (λ rule. is_of first (slice_get entries rule)) (book_of s rules first)) (numbers_once s rules first)
      (all_standing (λ rule. is_of first (slice_get entries rule)) (book_of s rules first) (λ k stands. own_entry entries rules first k same (stands_so s rules first k stands))))
      (own entries same (first + 1) count)

-- ---- there is room for them

put_length : (before : ℕ → ℕ → Bool) (n : ℕ) (ns : List ℕ) → length (put_in before n ns) ≡ suc (length ns)
put_length before n [] = refl
put_length before n (m ∷ ns) =
    elim (cases_Bool (before n m)) [
      | inl first ↦ rw first refl
      | inr later ↦ rw later (ap suc (put_length before n ns))
    ]

sorted_length : (before : ℕ → ℕ → Bool) (ns : List ℕ) → length (sorted before ns) ≡ length ns
sorted_length before [] = refl
sorted_length before (n ∷ ns) = put_length before n (sorted before ns) ∙ ap suc (sorted_length before ns)

listed_length : (book n : ℕ) (rules : List Rule) → length (listed_from book n rules) ≤ length rules
listed_length book n [] = omega arith
listed_length book n (rule ∷ rules) =
    elim (cases_Bool (is_of_book book (Some rule))) [
      | inl is ↦ rw is (omega (arith, listed_length book (n + 1) rules))
      | inr isnt ↦ rw isnt (omega (arith, listed_length book (n + 1) rules))
    ]

book_length : (s : Setting) (rules : List Rule) (book : ℕ) → length (book_of s rules book) ≤ length rules
unfolding book_of
book_length s rules book = omega (arith, sorted_length (is_before s rules) (listed_from book 0 rules), listed_length book 0 rules)

all_small : (bound : ℕ) (ns : List ℕ) → bound ≤ 65536 → list_all (λ n. ltb n bound) ns ≡ true → list_all (λ n. ltb n 65536) ns ≡ true
all_small bound [] le h = refl
all_small bound (n ∷ ns) le h =
    let t = and_parts (ltb n bound) (list_all (λ m. ltb m bound) ns) h in
    and_from (ltb n 65536) (list_all (λ m. ltb m 65536) ns) (lt-ltb n 65536 (omega (arith, ltb-true n bound t.0, le))) (all_small bound ns le t.1)

module _ (s : Setting) (rules : List Rule) (count : ℕ) (many : length rules ≡ count) (few : count ≤ 2000) where
  pub fit : (books : List ℕ) → list_all book_layout.format.fits (map (listing s rules) books) ≡ true
  unfolding book_layout
  fit [] = refl
  fit (book ∷ books) =
      and_from (book_layout.format.fits (listing s rules book)) (list_all book_layout.format.fits (map (listing s rules) books)) one (fit books)
    where
      below : list_all (λ rule. ltb rule count) (book_of s rules book) ≡ true
      below = (and_parts (lists_what_is_there count (listing s rules book)) true (there s rules count many (book ∷ []))).0

      one : book_layout.format.fits (listing s rules book) ≡ true
      one = and_from (ltb (length (book_of s rules book)) 65536) (list_all (λ n. ltb n 65536) (book_of s rules book)) (lt-ltb _ _ (omega (arith, book_length s rules book, many, few))) (all_small count (book_of s rules book) (omega (arith, few)) below)

-- ---- of a tale

have_standard : (rules : List Rule) (number : ℕ) → HaveBooks (standard_from number rules) rules
have_standard [] number = tt
have_standard (rule ∷ rules) number = (refl, have_standard rules (number + 1))

have_author : (rules : List Rule) (next : ℕ) → HaveBooks (rule_entries next rules) rules
unfolding rule_entries
have_author [] next = tt
have_author (rule ∷ rules) next = (refl, have_author rules (next + rule_count rule))

-- each entry of table 10 is of its rule's book
pub have_books : (listings : List ListingSentence) (rules : List Rule) (next : ℕ) → HaveBooks (all_entries next rules) (story_rules listings rules)
unfolding standard_entries
have_books listings rules next =
    let own_book : RuleEntry → Rule → Type 0 = λ entry rule. entry.book ≡ rule.book in
    zip_listed own_book (λ entry rule l same. same) listings 0 (all_entries next rules) (standard_rules ++ rules)
    (zip_append own_book standard_entries standard_rules (rule_entries next rules) rules (have_standard standard_rules 1) (have_author rules next))

pub story_count : (listings : List ListingSentence) (rules : List Rule) → length (story_rules listings rules) ≡ 61 + length rules
story_count listings rules = omega (arith, count_listed listings 0 (standard_rules ++ rules), length-append standard_rules rules, standard_count)

module _ (t : Tale) (listings : List ListingSentence) (rules : List Rule) where
  pub books_counted : length (books_of t listings rules) ≡ book_count t.declared
  unfolding books_of
  books_counted = length-map-range_with_len (listing (setting_of t) (story_rules listings rules)) 0 (book_count t.declared)

  pub books_there : (count : ℕ) → length (story_rules listings rules) ≡ count → list_all (lists_what_is_there count) (books_of t listings rules) ≡ true
  unfolding books_of
  books_there count many = there (setting_of t) (story_rules listings rules) count many (range_with_len 0 (book_count t.declared))

  pub books_own : (entries : List RuleEntry) → HaveBooks entries (story_rules listings rules) → list_their_own entries 0 (books_of t listings rules) ≡ true
  unfolding books_of
  books_own entries same = own (setting_of t) (story_rules listings rules) entries same 0 (book_count t.declared)

  pub books_fit : (count : ℕ) → length (story_rules listings rules) ≡ count → count ≤ 2000 → list_all book_layout.format.fits (books_of t listings rules) ≡ true
  unfolding books_of
  books_fit count many few = fit (setting_of t) (story_rules listings rules) count many few (range_with_len 0 (book_count t.declared))

-- ---- which books there are

standard_within : (rules : List Rule) (count : ℕ) → 8 ≤ count → list_all is_bare rules ≡ true → list_all (λ rule. ltb rule.book count) rules ≡ true
standard_within [] count le h = refl
standard_within (rule ∷ rules) count le h =
    let t = and_parts (is_bare rule) (list_all is_bare rules) h in
    and_from (ltb rule.book count) (list_all (λ (r : Rule). ltb r.book count) rules) (lt-ltb _ _ (omega (arith, ltb-true rule.book 8 (bare_is rule t.0).book, le))) (standard_within rules count le t.1)

author_within : (z : Named) (rules : List Rule) → list_all (of_named z) rules ≡ true → list_all (λ rule. ltb rule.book z.books) rules ≡ true
author_within z [] h = refl
author_within z (rule ∷ rules) h =
    let t = and_parts (of_named z rule) (list_all (of_named z) rules) h in
    and_from (ltb rule.book z.books) (list_all (λ (r : Rule). ltb r.book z.books) rules) (lt-ltb _ _ (named_parts z rule t.0).book) (author_within z rules t.1)

pub all_within : (z : Named) (listings : List ListingSentence) (rules : List Rule) → 8 ≤ z.books → list_all (of_named z) rules ≡ true → list_all (λ rule. ltb rule.book z.books) (story_rules listings rules) ≡ true
all_within z listings rules le h =
    all_listed (λ (rule : Rule). ltb rule.book z.books) (λ rule l. refl) listings 0 (standard_rules ++ rules)
    ∙ list_all-append (λ (rule : Rule). ltb rule.book z.books) standard_rules rules
    ∙ and_from (list_all (λ (rule : Rule). ltb rule.book z.books) standard_rules) (list_all (λ (rule : Rule). ltb rule.book z.books) rules) (standard_within standard_rules z.books le all_bare) (author_within z rules h)

-- ---- what a book of a number lists

listed_within : (f : ℕ → Book) (first count k j : ℕ) → k < count → first + k ≡ j → slice_get (map f (range_with_len first count)) k ≡ Some (f j)
listed_within f first zero k j lt is = absurd (omega (arith, lt))
listed_within f first (suc count) zero j lt is = let same : first ≡ j = omega (arith, is) in ap (λ n. Some (f n)) same
listed_within f first (suc count) (suc k) j lt is = listed_within f (first + 1) count k j (omega (arith, lt)) (omega (arith, is))

listed_past : (f : ℕ → Book) (first count k : ℕ) → count ≤ k → slice_get (map f (range_with_len first count)) k ≡ None
listed_past f first count k le = slice_get_past (map f (range_with_len first count)) k (omega (arith, le, length-map-range_with_len f first count))

listed_none : (book n count : ℕ) (rules : List Rule) → count ≤ book → list_all (λ rule. ltb rule.book count) rules ≡ true → listed_from book n rules ≡ []
listed_none book n count [] le h = refl
listed_none book n count (rule ∷ rules) le h =
    let t = and_parts (ltb rule.book count) (list_all (λ (r : Rule). ltb r.book count) rules) h in
    let other : eqb rule.book book ≡ false = ne_eqb rule.book book (λ e. omega (arith, e, ltb-true rule.book count t.0, le)) in
    rw other (listed_none book (n + 1) count rules le t.1)

none_of : (s : Setting) (rules : List Rule) (book count : ℕ) → count ≤ book → list_all (λ rule. ltb rule.book count) rules ≡ true → book_of s rules book ≡ []
unfolding book_of
none_of s rules book count le h = ap (sorted (is_before s rules)) (listed_none book 0 count rules le h)

pub books_listed : (t : Tale) (listings : List ListingSentence) (rules : List Rule) → list_all (λ rule. ltb rule.book (book_count t.declared)) (story_rules listings rules) ≡ true → (book : ℕ)
    → rules_in (slice_get (books_of t listings rules) book) ≡ book_of (setting_of t) (story_rules listings rules) book
unfolding books_of
books_listed t listings rules within book =
    let count = book_count t.declared in
    let f = listing (setting_of t) (story_rules listings rules) in
    elim (cases_Bool (ltb book count)) [
      | inl is ↦ ap rules_in (listed_within f 0 count book book (ltb-true book count is) (omega arith))
      | inr isnt ↦ ap rules_in (listed_past f 0 count book (ltb-false book count isnt)) ∙ sym (none_of (setting_of t) (story_rules listings rules) book count (ltb-false book count isnt) within)
    ]

-- ---- as they are loaded

pub below_if_own : (rules : List RuleEntry) (book : ℕ) (ns : List ℕ) → list_all (λ rule. is_of book (slice_get rules rule)) ns ≡ true → list_all (λ n. ltb n (length rules)) ns ≡ true
below_if_own rules book [] h = refl
below_if_own rules book (n ∷ ns) h =
    let t = and_parts (is_of book (slice_get rules n)) (list_all (λ rule. is_of book (slice_get rules rule)) ns) h in
    and_from (ltb n (length rules)) (list_all (λ m. ltb m (length rules)) ns) (lt-ltb n (length rules) (there_below rules n t.0)) (below_if_own rules book ns t.1)
  where
    there_below : (entries : List RuleEntry) (k : ℕ) → is_of book (slice_get entries k) ≡ true → k < length entries
    there_below [] k h = absurd cc
    there_below (entry ∷ entries) zero h = omega arith
    there_below (entry ∷ entries) (suc k) h = omega (arith, there_below entries k h)

-- ---- as they are made

same_heading : (headings : List Heading) (rules : List Rule) → map heading_meant headings ≡ map heading_of rules → AllZip IsRuleOf headings rules
same_heading [] [] same = tt
same_heading [] (rule ∷ rules) same = absurd cc
same_heading (h ∷ headings) [] same = absurd cc
same_heading (h ∷ headings) (rule ∷ rules) same =
    let one : heading_meant h ≡ heading_of rule = cc in
    let others : map heading_meant headings ≡ map heading_of rules = cc in (
      record {
        book = ap (λ (x : Headed). x.book) (sym one);
        action = ap (λ (x : Headed). x.about.action) (sym one);
        noun = ap (λ (x : Headed). x.about.noun) (sym one);
        second = ap (λ (x : Headed). x.about.second) (sym one);
        place = ap (λ (x : Headed). x.about.place) (sym one);
        scene = ap (λ (x : Headed). x.about.scene) (sym one);
        conditional = ap (λ (x : Headed). x.conditional) (sym one);
        listed = ap (λ (x : Headed). x.listed) (sym one);
      },
      same_heading headings rules others,
    )

pub heading_count : (headings : List Heading) (listings : List ListingSentence) (rules : List Rule) → map heading_meant headings ≡ map heading_of (story_rules listings rules) → length headings ≡ 61 + length rules
heading_count headings listings rules same =
    sym (length-map headings heading_meant) ∙ ap length same ∙ length-map (story_rules listings rules) heading_of ∙ story_count listings rules

-- what is computed of the headings are the books of the tale
pub books_made : IsConsultedSo → (t : Tale) (listings : List ListingSentence) (rules : List Rule) (headings : List Heading) (books : List (List ℕ)) → map heading_meant headings ≡ map heading_of (story_rules listings rules)
    → AreListedApart (story_rules listings rules) → AreBooksOf t.declared.kinds headings books → map (λ book. record { rules = book_in books book }) (range_with_len 0 (book_count t.declared)) ≡ books_of t listings rules
unfolding books_of setting_of
books_made law t listings rules headings books same apart are =
    let every : List Rule = story_rules listings rules in
    let each : (book : ℕ) → book_in books book ≡ book_of (setting_of t) every book =
    λ book. law (setting_of t) every book (book_in books book) apart (are (setting_of t) every (λ kind. refl) (same_heading headings every same) book) in
    ap (λ (f : ℕ → Book). map f (range_with_len 0 (book_count t.declared))) (λ i. λ book. record { rules = each book i })
