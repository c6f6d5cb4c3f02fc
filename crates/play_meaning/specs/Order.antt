-- The order of a rulebook: those listed first, the latest sentence in front; then the more specific rules before the
-- less; then those listed last.
use Rattle.std.specs.Prelude.{◌≡◌, ⊤, ℕ, ◌+◌, ◌*◌, ℤ, pos, neg_ℤ, Bool, true, false, ◌&&◌, ◌==◌, List, [], ◌∷◌, length, Option, None, Some, slice_get, if◌then◌else◌}
use Rattle.std.specs.Cmp.Lexicographic.{slice_cmp}
use Rattle.std.specs.List.{AllByRecursion}
use Rattle.std.specs.Ordering.{int_cmp, is_lt}
use Rattle.play_meaning.specs.Rules.{Aspect, Anything, Exactly, InOrder, Listed, ListedFirst, ListedLast, OfKind, Rule, Unlisted}
use Rattle.play_meaning.specs.Settings.{Setting}

-- ---- how specific a rule is

-- a named object, or a description by its kind's depth and its adjectives
abbrev pub grade : Setting → Aspect → ℕ
grade s Anything = 0
grade s (Exactly o) = 10000
grade s (OfKind kind adjectives) = 10 * s.depth kind + length adjectives

abbrev pub asks : Aspect → ℕ
asks Anything = 0
asks (Exactly o) = 1
asks (OfKind kind adjectives) = 1

abbrev pub count_of : {A : Type 0} → Option A → ℕ
count_of None = 0
count_of (Some a) = 1

-- how many of its aspects ask anything: action, noun, second noun, place, scene and condition
abbrev pub aspects : Rule → ℕ
aspects rule = count_of rule.action + asks rule.noun + asks rule.second + asks rule.place + count_of rule.scene + count_of rule.condition

abbrev pub minus : ℕ → ℤ
minus n = neg_ℤ (pos n)

-- the key of a rule by its number: keys are compared item by item
abbrev pub key_by : Setting → ℕ → Rule → Listed → List ℤ
key_by s number rule (ListedFirst sentence) = pos 0 ∷ minus sentence ∷ []
key_by s number rule InOrder = pos 1 ∷ minus (aspects rule) ∷ minus (grade s rule.noun) ∷ minus (grade s rule.second) ∷ minus (grade s rule.place) ∷ pos number ∷ []
key_by s number rule (ListedLast sentence) = pos 2 ∷ pos sentence ∷ []
key_by s number rule Unlisted = []

abbrev pub key_of : Setting → ℕ → Rule → List ℤ
key_of s number rule = key_by s number rule rule.listed

-- ---- a book

abbrev pub is_listed : Listed → Bool
is_listed Unlisted = false
is_listed _ = true

abbrev pub is_of_book : ℕ → Option Rule → Bool
is_of_book book None = false
is_of_book book (Some rule) = (rule.book == book) && is_listed rule.listed

abbrev pub key_at : Setting → ℕ → Option Rule → List ℤ
key_at s number None = []
key_at s number (Some rule) = key_of s number rule

-- the key of the rule of a number
abbrev pub key_in : Setting → List Rule → ℕ → List ℤ
key_in s rules number = key_at s number (slice_get rules number)

abbrev pub is_before : Setting → List Rule → ℕ → ℕ → Bool
is_before s rules a b = is_lt (slice_cmp int_cmp (key_in s rules a) (key_in s rules b))

-- a rule's place is behind those that it isn't before
abbrev pub put_in : (ℕ → ℕ → Bool) → ℕ → List ℕ → List ℕ
put_in is_before n [] = n ∷ []
put_in is_before n (m ∷ ms) = if is_before n m then n ∷ m ∷ ms else m ∷ put_in is_before n ms

abbrev pub sorted : (ℕ → ℕ → Bool) → List ℕ → List ℕ
sorted is_before [] = []
sorted is_before (n ∷ ns) = put_in is_before n (sorted is_before ns)

-- the numbers of a book's listed rules, the first of these rules having this number
abbrev pub listed_from : ℕ → ℕ → List Rule → List ℕ
listed_from book n [] = []
listed_from book n (rule ∷ rules) = if is_of_book book (Some rule) then n ∷ listed_from book (n + 1) rules else listed_from book (n + 1) rules

-- the rules of a book, by their numbers, in its order
unfoldable pub book_of : Setting → List Rule → ℕ → List ℕ
book_of s rules book = sorted (is_before s rules) (listed_from book 0 rules)

-- ---- what an order is

-- how often a number stands in a list
abbrev pub times : ℕ → List ℕ → ℕ
times k [] = 0
times k (n ∷ ns) = (if n == k then 1 else 0) + times k ns

-- none is before one that stands in front of it
abbrev pub Rises : (ℕ → ℕ → Bool) → List ℕ → Type 0
Rises is_before [] = ⊤
Rises is_before (n ∷ ns) = AllByRecursion (λ m. is_before m n ≡ false) ns × Rises is_before ns
