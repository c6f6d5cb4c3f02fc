-- The entries of headings are those of their rules.
use Rattle.std.proofs.Common.{◌≡◌, ◌∙◌, ap, sym, refl, ℕ, suc, ◌+◌, ◌*◌, pos, Bool, true, false, List, [], ◌∷◌, ◌++◌, length, arith}
use Rattle.std.specs.Prelude.{◌==◌, ◌&&◌, Option, Some, None, is_some, slice_get, if◌then◌else◌}
use Rattle.std.specs.List.{AllByRecursion, AllZip}
use Rattle.std.specs.Option.{option_to_list}
use Rattle.play_meaning.specs.Order.{asks, aspects, count_of, grade, is_listed, is_of_book, key_at, key_by as rule_key_by, listed_from, minus}
use Rattle.play_meaning.specs.Patterns.{aspect_meant, listing_meant}
use Rattle.play_meaning.specs.Rules.{Anything, Aspect, Exactly, OfKind, Rule}
use Rattle.play_meaning.specs.Settings.{Setting}
use Rattle.play_meaning.specs.Tales.{depth_of}
use Rattle.play_meaning.specs.declared.tree.pattern.Listing.{Listing}
use Rattle.play_meaning.specs.declared.tree.pattern.Listing.TheVariants as listing
use Rattle.rule_order.specs.Entries.{entries_from, entry_by, entry_of, numbers_of}
use Rattle.rule_order.specs.Headings.{IsRuleOf, aspects_of, grade_of, one_if}
use Rattle.rule_order.specs.Keys.{key_by, key_of}
use Rattle.rule_order.specs.declared.entry.Entry.{Entry}
use Rattle.rule_order.specs.declared.heading.Heading.{Heading}
use Rattle.rule_order.proofs.EntryLemmas.{IsEntryOf}

-- ---- which are listed

and_true : (test : Bool) → test ≡ (test && true)
and_true true = refl
and_true false = refl

and_false : (test : Bool) → false ≡ (test && false)
and_false true = refl
and_false false = refl

-- with this number in front or not
abbrev counted_in : ℕ → ℕ → List Entry → Bool → List ℕ
counted_in book n es test = if test then n ∷ numbers_of book es else numbers_of book es

one_listed : (kinds : List (Option ℕ)) (n : ℕ) (h : Heading) (book : ℕ) (es : List Entry) (l : Listing)
    → numbers_of book (option_to_list (entry_by h.book n (key_by kinds n h l)) ++ es) ≡ counted_in book n es ((h.book == book) && is_listed (listing_meant l))
one_listed kinds n h book es listing.Unlisted = ap (counted_in book n es) (and_false (h.book == book))
one_listed kinds n h book es listing.InOrder = ap (counted_in book n es) (and_true (h.book == book))
one_listed kinds n h book es (listing.First sentence) = ap (counted_in book n es) (and_true (h.book == book))
one_listed kinds n h book es (listing.Last sentence) = ap (counted_in book n es) (and_true (h.book == book))

pub listed_alike : (kinds : List (Option ℕ)) (n : ℕ) (hs : List Heading) (rules : List Rule) (book : ℕ) → AllZip IsRuleOf hs rules
    → numbers_of book (entries_from kinds n hs) ≡ listed_from book n rules
unfolding entry_of key_of
listed_alike kinds n [] [] book alike = refl
listed_alike kinds n [] (rule ∷ rules) book alike = absurd alike
listed_alike kinds n (h ∷ hs) [] book alike = absurd alike
listed_alike kinds n (h ∷ hs) (rule ∷ rules) book alike =
    let rest : List ℕ = listed_from book (n + 1) rules in
    let same : is_of_book book (Some rule) ≡ ((h.book == book) && is_listed (listing_meant h.listing)) = λ i. (alike.0.book i == book) && is_listed (alike.0.listed i) in
    one_listed kinds n h book (entries_from kinds (n + 1) hs) h.listing
    ∙ ap (λ more. if (h.book == book) && is_listed (listing_meant h.listing) then n ∷ more else more) (listed_alike kinds (n + 1) hs rules book alike.1)
    ∙ ap (λ test. if test then n ∷ rest else rest) (sym same)

-- ---- by which keys

grades_alike : (s : Setting) (kinds : List (Option ℕ)) → ((kind : ℕ) → s.depth kind ≡ depth_of kinds kind) → (a : Aspect) → grade s a ≡ grade_of kinds a
grades_alike s kinds depths Anything = refl
grades_alike s kinds depths (Exactly o) = refl
grades_alike s kinds depths (OfKind kind adjectives) = ap (λ depth. 10 * depth + length adjectives) (depths kind)

counted_if : {A : Type 0} (o : Option A) → count_of o ≡ one_if (is_some o)
counted_if None = refl
counted_if (Some a) = refl

aspects_alike : (h : Heading) (rule : Rule) → IsRuleOf h rule → aspects rule ≡ aspects_of h
aspects_alike h rule is =
    let condition : count_of rule.condition ≡ one_if h.is_conditional = counted_if rule.condition ∙ ap one_if is.conditional in
    λ i. count_of (is.action i) + asks (is.noun i) + asks (is.second i) + asks (is.place i) + count_of (is.scene i) + condition i

one_entry : (s : Setting) (kinds : List (Option ℕ)) → ((kind : ℕ) → s.depth kind ≡ depth_of kinds kind) → (all : List Rule) (n : ℕ) (h : Heading) (rule : Rule)
    → IsRuleOf h rule → slice_get all n ≡ Some rule → (l : Listing) → rule.listed ≡ listing_meant l
    → AllByRecursion (IsEntryOf s all) (option_to_list (entry_by h.book n (key_by kinds n h l)))
one_entry s kinds depths all n h rule is at listing.Unlisted listed = tt
one_entry s kinds depths all n h rule is at (listing.First sentence) listed =
    (ap (key_at s n) at ∙ ap (rule_key_by s n rule) listed, tt)
one_entry s kinds depths all n h rule is at (listing.Last sentence) listed =
    (ap (key_at s n) at ∙ ap (rule_key_by s n rule) listed, tt)
one_entry s kinds depths all n h rule is at listing.InOrder listed =
    let noun : grade s rule.noun ≡ grade_of kinds (aspect_meant h.pattern.now.noun) = grades_alike s kinds depths rule.noun ∙ ap (grade_of kinds) is.noun in
    let second : grade s rule.second ≡ grade_of kinds (aspect_meant h.pattern.now.second) = grades_alike s kinds depths rule.second ∙ ap (grade_of kinds) is.second in
    let place : grade s rule.place ≡ grade_of kinds (aspect_meant h.pattern.now.place) = grades_alike s kinds depths rule.place ∙ ap (grade_of kinds) is.place in
    let asked : aspects rule ≡ aspects_of h = aspects_alike h rule is in (
      ap (key_at s n) at ∙ ap (rule_key_by s n rule) listed
          ∙ λ i. pos 1 ∷ minus (asked i) ∷ minus (noun i) ∷ minus (second i) ∷ minus (place i) ∷ pos n ∷ [],
      tt,
    )

both : (P : Entry → Type 0) (es fs : List Entry) → AllByRecursion P es → AllByRecursion P fs → AllByRecursion P (es ++ fs)
both P [] fs of_es of_fs = of_fs
both P (e ∷ es) fs of_es of_fs = (of_es.0, both P es fs of_es.1 of_fs)

-- the rules from here on stand in a list of rules
pub entries_alike : (s : Setting) (kinds : List (Option ℕ)) → ((kind : ℕ) → s.depth kind ≡ depth_of kinds kind) → (all : List Rule) (n : ℕ) (hs : List Heading) (rules : List Rule)
    → ((j : ℕ) → slice_get all (n + j) ≡ slice_get rules j) → AllZip IsRuleOf hs rules → AllByRecursion (IsEntryOf s all) (entries_from kinds n hs)
unfolding entry_of key_of
entries_alike s kinds depths all n [] [] there alike = tt
entries_alike s kinds depths all n [] (rule ∷ rules) there alike = absurd alike
entries_alike s kinds depths all n (h ∷ hs) [] there alike = absurd alike
entries_alike s kinds depths all n (h ∷ hs) (rule ∷ rules) there alike =
    let here : n ≡ n + 0 = omega arith in
    let later : (j : ℕ) → (n + 1) + j ≡ n + suc j = λ j. omega arith in
    both (IsEntryOf s all) (option_to_list (entry_by h.book n (key_by kinds n h h.listing))) (entries_from kinds (n + 1) hs)
    (one_entry s kinds depths all n h rule alike.0 (ap (slice_get all) here ∙ there 0) h.listing alike.0.listed)
    (entries_alike s kinds depths all (n + 1) hs rules (λ j. ap (slice_get all) (later j) ∙ there (suc j)) alike.1)
