-- Stories without kinds of value, as tables 1 to 13 say them by themselves.
use Rattle.std.specs.Prelude.{◌≡◌, ◌↔◌, ℕ, true, List, ◌++◌, length, take, Some}
use Rattle.code_table.specs.Strings.{counted_on}
use Rattle.story_code.specs.Soundness.{Judged}
use Rattle.story_format.specs.Checks.{are_first_right, heads_named}
use Rattle.story_format.specs.Codes.{AreCodesOf}
use Rattle.story_format.specs.Layout.{first_layout, first_tables, no_values}
use Rattle.story_format.specs.Soundness.{are_in_turn, strings_read}
use Rattle.story_format.specs.Spells.{Spells, are_ordered, head}
use Rattle.story_format.specs.declared.tables.Tables.{Tables}

-- The bytes are version 1 and tables 1 to 13, which are a story's by themselves: there is no kind of value.
pub record SpellsFirst (bytes : List ℕ) (t : Tables) : Type 0 where
  pub none : t.values ≡ no_values
  pub spelled : bytes ≡ head 1 ++ first_layout.format.put (first_tables t)
  pub fits : first_layout.format.fits (first_tables t) ≡ true
  pub right : are_first_right t ≡ true
  pub judged : List Judged
  pub codes : AreCodesOf t judged
  pub in_turn : are_in_turn 0 (heads_named t) ≡ true
  pub named : counted_on 0 (strings_read t) ≡ Some (length t.strings)
  pub ordered : are_ordered t ≡ true

-- files of version 1 are read so, and no others
abbrev pub FirstVersionStands : Type 0
FirstVersionStands = (bytes : List ℕ) (t : Tables) → (Spells bytes t × (take 6 bytes ≡ head 1)) ↔ SpellsFirst bytes t
