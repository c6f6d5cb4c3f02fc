-- The regular plurals of names in small letters.
use Rattle.std.specs.Prelude.{ℕ, ◌-◌, Bool, false, not, ◌&&◌, ◌||◌, ◌==◌, nat_le, nat_lt, List, ◌++◌, length, take, drop, slice_get, Option, Some, None, bytes_eq, codes, if◌then◌else◌}
use Rattle.std.specs.List.{list_any}

-- words without the last bytes
abbrev pub front_of : ℕ → List ℕ → List ℕ
front_of count words = take (length words - count) words

abbrev pub ends_in : List ℕ → List ℕ → Bool
ends_in end words = if nat_lt (length words) (length end) then false else bytes_eq (drop (length words - length end) words) end

abbrev pub is_consonant : ℕ → Bool
is_consonant b = nat_le 97 b && nat_le b 122 && not (list_any (λ vowel. b == vowel) (codes "aeiou"))

abbrev pub is_consonant_in : Option ℕ → Bool
is_consonant_in None = false
is_consonant_in (Some b) = is_consonant b

abbrev pub takes_es : List ℕ → Bool
takes_es name = ends_in (codes "s") name || ends_in (codes "x") name || ends_in (codes "z") name || ends_in (codes "ch") name || ends_in (codes "sh") name

-- a consonant and `y`
abbrev pub takes_ies : List ℕ → Bool
takes_ies name = ends_in (codes "y") name && is_consonant_in (slice_get (front_of 1 name) (length (front_of 1 name) - 1))

abbrev pub plural_of : List ℕ → List ℕ
plural_of name = if takes_es name then name ++ codes "es" else (if takes_ies name then front_of 1 name ++ codes "ies" else name ++ codes "s")
