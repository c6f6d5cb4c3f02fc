-- Literal numbers, from -2147483648 to 2147483647.
use Rattle.std.specs.Prelude.{ℕ, ℤ, pos, ◌-ℤ◌, min, ◌-◌, ◌*◌, ◌+◌, Bool, false, not, ◌&&◌, ◌==◌, nat_lt, List, [], ◌∷◌, length, fold, Option, None, Some, if◌then◌else◌}
use Rattle.std.specs.List.{list_all}
use Rattle.std.specs.Char.{is_ascii_digit}

-- whether a word begins with `-`
abbrev pub is_negative : List ℕ → Bool
is_negative [] = false
is_negative (b ∷ bs) = b == 45

-- a word without a `-` in front
abbrev pub digits_of : List ℕ → List ℕ
digits_of [] = []
digits_of (b ∷ bs) = if b == 45 then bs else b ∷ bs

-- digits, perhaps behind a `-`
abbrev pub is_literal : List ℕ → Bool
is_literal word = not (length (digits_of word) == 0) && list_all is_ascii_digit (digits_of word)

-- the number that one more digit makes
abbrev pub with_digit : ℕ → ℕ → ℕ
with_digit n digit = n * 10 + (digit - 48)

-- the number that digits spell
abbrev pub magnitude : List ℕ → ℕ
magnitude digits = fold with_digit 0 digits

-- the highest number, or of negative ones the lowest
abbrev pub most_of : List ℕ → ℕ
most_of word = if is_negative word then 2147483648 else 2147483647

abbrev pub is_out_of_range : List ℕ → Bool
is_out_of_range word = is_literal word && nat_lt (most_of word) (magnitude (digits_of word))

-- the size of the number that a literal spells; what is out of range stops at the range's end
abbrev pub size_of : List ℕ → ℕ
size_of word = min (magnitude (digits_of word)) (most_of word)

-- the number that a literal spells
abbrev pub literal_of : List ℕ → ℤ
literal_of word = if is_negative word then pos 0 -ℤ pos (size_of word) else pos (size_of word)

-- the number that a word spells, if it is a literal in range
abbrev pub literal_in : List ℕ → Option ℤ
literal_in word = if is_literal word && not (is_out_of_range word) then Some (literal_of word) else None
