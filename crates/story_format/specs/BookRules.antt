-- Which rules table 11 may list: a book lists no rule twice, and none of another book.
use Rattle.std.specs.Prelude.{ℕ, ◌+◌, Bool, true, false, ◌&&◌, ◌==◌, List, [], ◌∷◌, Option, Some, None, slice_get}
use Rattle.std.specs.List.{list_all}
use Rattle.story_format.specs.Sizes.{are_different}
use Rattle.story_format.specs.declared.rule_entry.RuleEntry.{RuleEntry}
use Rattle.story_format.specs.declared.rule_tables.Book.{Book}

-- the rule is there, and of the book of this number
abbrev pub is_of : ℕ → Option RuleEntry → Bool
is_of book None = false
is_of book (Some rule) = rule.book == book

unfoldable pub lists_its_own : List RuleEntry → ℕ → Book → Bool
lists_its_own rules number book = are_different book.rules && list_all (λ rule. is_of number (slice_get rules rule)) book.rules

-- the first of these books having this number
unfoldable pub list_their_own : List RuleEntry → ℕ → List Book → Bool
list_their_own rules number [] = true
list_their_own rules number (book ∷ books) = lists_its_own rules number book && list_their_own rules (number + 1) books
