-- Strings in the order in which they are first mentioned.
use Rattle.std.specs.Prelude.{ℕ, List, [], ◌∷◌, ◌++◌, if◌then◌else◌, fold, min, position, Option, Some, None}
use Rattle.std.specs.List.{list_any}
use Rattle.std.specs.Str.{bytes_eq}

-- a string that wasn't mentioned yet goes behind the others
abbrev pub mention : List (List ℕ) → List ℕ → List (List ℕ)
mention seen string = if list_any (bytes_eq string) seen then seen else seen ++ string ∷ []

-- each string once
abbrev pub first_mentions : List (List ℕ) → List (List ℕ)
first_mentions strings = fold mention [] strings

abbrev pub number_or_none : Option ℕ → ℕ
number_or_none None = 65535
number_or_none (Some place) = min place 65535

-- the string's place among them, counted from 0
unfoldable pub number_in : List (List ℕ) → List ℕ → ℕ
number_in strings string = number_or_none (position (bytes_eq string) strings)
