-- What the rulebooks of rules are.
use Rattle.std.specs.Prelude.{◌≡◌, ℕ, List, [], Option, None, Some, slice_get, if◌then◌else◌}
use Rattle.std.specs.List.{AllZip}
use Rattle.play_meaning.specs.Order.{Rises, is_before, is_of_book, times}
use Rattle.play_meaning.specs.Rules.{Listed, ListedFirst, ListedLast, Rule}
use Rattle.play_meaning.specs.Settings.{Setting}
use Rattle.play_meaning.specs.Tales.{depth_of}
use Rattle.rule_order.specs.Headings.{IsRuleOf}
use Rattle.rule_order.specs.declared.heading.Heading.{Heading}

-- the rules of a rulebook by their numbers: each of its listed rules once and no other, and none before one that stands in
-- front of it
pub record IsInOrder (s : Setting) (rules : List Rule) (book : ℕ) (numbers : List ℕ) : Type 0 where
  pub exactly : (rule : ℕ) → times rule numbers ≡ (if is_of_book book (slice_get rules rule) then 1 else 0)
  pub rising : Rises (is_before s rules) numbers

-- the sentence that lists a rule first or last
abbrev pub sentence_of : Listed → Option ℕ
sentence_of (ListedFirst sentence) = Some sentence
sentence_of (ListedLast sentence) = Some sentence
sentence_of _ = None

-- no sentence lists two rules
abbrev pub AreListedApart : List Rule → Type 0
AreListedApart rules =
    (j k : ℕ) (rule other : Rule) (sentence : ℕ) → slice_get rules j ≡ Some rule → slice_get rules k ≡ Some other
    → sentence_of rule.listed ≡ Some sentence → sentence_of other.listed ≡ Some sentence → j ≡ k

abbrev pub rules_or_none : Option (List ℕ) → List ℕ
rules_or_none None = []
rules_or_none (Some numbers) = numbers

-- the rules of a rulebook; none of one that lists none
abbrev pub book_in : List (List ℕ) → ℕ → List ℕ
book_in books book = rules_or_none (slice_get books book)

-- whatever else is so, where the kinds are these, and of all rules with these headings
abbrev pub AreBooksOf : List (Option ℕ) → List Heading → List (List ℕ) → Type 0
AreBooksOf kinds headings books =
    (s : Setting) (rules : List Rule) → ((kind : ℕ) → s.depth kind ≡ depth_of kinds kind) → AllZip IsRuleOf headings rules
    → (book : ℕ) → IsInOrder s rules book (book_in books book)
