-- The listed rules of a story as entries, and the rulebooks that these tell.
use Rattle.std.specs.Prelude.{ℕ, ◌+◌, ◌==◌, List, [], ◌∷◌, ◌++◌, map, max, Option, None, Some, if◌then◌else◌}
use Rattle.std.specs.List.{range_with_len}
use Rattle.std.specs.Option.{option_to_list}
use Rattle.rule_order.specs.Keys.{key_of}
use Rattle.rule_order.specs.declared.entry.Entry.{Entry}
use Rattle.rule_order.specs.declared.heading.Heading.{Heading}
use Rattle.rule_order.specs.declared.key.Key.{Key}

abbrev pub entry_by : ℕ → ℕ → Option Key → Option Entry
entry_by book number None = None
entry_by book number (Some key) = Some (record { book = book; key = key; number = number })

unfoldable pub entry_of : List (Option ℕ) → ℕ → Heading → Option Entry
entry_of kinds number h = entry_by h.book number (key_of kinds number h)

-- the listed ones, the first rule having this number
abbrev pub entries_from : List (Option ℕ) → ℕ → List Heading → List Entry
entries_from kinds number [] = []
entries_from kinds number (h ∷ hs) = option_to_list (entry_of kinds number h) ++ entries_from kinds (number + 1) hs

-- up to the last rulebook that lists one
abbrev pub count_from : ℕ → List Entry → ℕ
count_from count [] = count
count_from count (entry ∷ entries) = count_from (max count (entry.book + 1)) entries

abbrev pub count_of : List Entry → ℕ
count_of entries = count_from 0 entries

-- those of a rulebook
abbrev pub numbers_of : ℕ → List Entry → List ℕ
numbers_of book [] = []
numbers_of book (entry ∷ entries) = if entry.book == book then entry.number ∷ numbers_of book entries else numbers_of book entries

unfoldable pub books_from : List Entry → List (List ℕ)
books_from entries = map (λ book. numbers_of book entries) (range_with_len 0 (count_of entries))
