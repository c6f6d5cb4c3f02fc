-- Rows whose spellings begin with no capital letter, so that a word's first letter tells most of them from it.
use Rattle.std.specs.Prelude.{ℕ, Bool, true, ◌==◌, List, [], ◌∷◌}
use Rattle.std.specs.Char.{to_ascii_lowercase}
use Rattle.std.specs.List.{list_all}
use Rattle.i7_sentences.specs.Keywords.{Row}

abbrev pub begins_small : List ℕ → Bool
begins_small [] = true
begins_small (letter ∷ more) = to_ascii_lowercase letter == letter

abbrev pub are_small : List Row → Bool
are_small rows = list_all (λ row. begins_small row.spelling) rows

-- the first letter of a word, a capital as a small one
abbrev pub small_first : List ℕ → ℕ
small_first [] = 0
small_first (letter ∷ more) = to_ascii_lowercase letter

-- whether the spelling begins with this letter, if it isn't empty
abbrev pub begins_with : ℕ → List ℕ → Bool
begins_with first [] = true
begins_with first (letter ∷ more) = first == letter
