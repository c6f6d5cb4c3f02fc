-- Which codes are a story's: the objects and the rules name the first of them in turn, behind these are the tests that codes
-- name, and each string is named.
use Rattle.std.specs.Prelude.{◌≡◌, ℕ, ◌+◌, ◌==◌, Bool, true, false, ◌&&◌, List, [], ◌∷◌, ◌++◌, length, map, Option, None, Some}
use Rattle.code_table.specs.Strings.{counted_on, strings_of}
use Rattle.story_code.specs.Runs.{code_told}
use Rattle.story_code.specs.Soundness.{Judged}
use Rattle.story_format.specs.declared.tables.Tables.{Tables}
use Rattle.story_format.specs.Checks.{heads_named, strings_in_tables}
use Rattle.story_format.specs.Codes.{AreCodesOf, code_spelled}
use Rattle.story_format.specs.ValueChecks.{strings_in_values}

-- the numbers are this one, the one behind it, and so on
unfoldable pub are_in_turn : ℕ → List ℕ → Bool
are_in_turn next [] = true
are_in_turn next (n ∷ ns) = (n == next) && are_in_turn (next + 1) ns

-- so many are counted
abbrev pub is_count : ℕ → Option ℕ → Bool
is_count count None = false
is_count count (Some n) = n == count

-- the strings that objects and lines name, then those that the codes name
unfoldable pub strings_read : Tables → List ℕ
strings_read t = strings_in_tables t ++ strings_of (map code_spelled t.codes)

-- and then those that kinds of value name
abbrev pub all_strings_read : Tables → List ℕ
all_strings_read t = strings_read t ++ strings_in_values t.values.kinds

-- the same, where the codes are these
abbrev pub all_strings_told : Tables → List Judged → List ℕ
all_strings_told t codes = (strings_in_tables t ++ strings_of (map code_told codes)) ++ strings_in_values t.values.kinds

-- The codes are a table, of which the objects and then the rules name the first, each of them once and in order; and each
-- string is named, in order.
pub record AreSound (t : Tables) : Type 0 where
  pub judged : List Judged
  pub table : AreCodesOf t judged
  pub in_turn : are_in_turn 0 (heads_named t) ≡ true
  pub named : counted_on 0 (all_strings_read t) ≡ Some (length t.strings)
