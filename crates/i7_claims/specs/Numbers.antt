-- Names by their places in a list.
use Rattle.std.specs.Prelude.{ℕ, Bool, List, length, position, Option, Some, None, bytes_eq}
use Rattle.std.specs.List.{list_any}

abbrev pub has_name : List (List ℕ) → List ℕ → Bool
has_name names name = list_any (bytes_eq name) names

abbrev pub place_or : ℕ → Option ℕ → ℕ
place_or other None = other
place_or other (Some place) = place

-- a name's number: the place of its key
abbrev pub number_in : List (List ℕ) → List ℕ → ℕ
number_in keys key = place_or (length keys) (position (bytes_eq key) keys)
