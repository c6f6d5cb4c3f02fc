-- The words between the brackets of a text.
use Rattle.std.specs.Prelude.{◌≡◌, ◌<◌, ◌≤◌, ℕ, Bool, not, ◌==◌, List, [], ◌∷◌, length, map, MatchOption, Option}
use Rattle.std.specs.Borrow.{Bor}
use Rattle.std.specs.List.{after_first, before_first, list_any, position_or_len, slice_split}
use Rattle.i7_lexer.specs.Bytes.{is_letter}
use Rattle.world_meaning.specs.Literals.{is_out_of_range}

abbrev pub is_byte : ℕ → ℕ → Bool
is_byte byte b = b == byte

-- all but the last of parts
abbrev pub ended : List (List ℕ) → List (List ℕ)
ended [] = []
ended (part ∷ []) = []
ended (part ∷ next ∷ parts) = part ∷ ended (next ∷ parts)

-- What stands between brackets: of each part of a text that ends at a `]`, what is behind its first `[`, nothing where it has none. So a `[`
-- brackets what stands up to the next `]`, and nothing without a `]` behind it.
abbrev pub bracketed : List ℕ → List (List ℕ)
bracketed text = map (after_first (is_byte 91)) (ended (slice_split (is_byte 93) text))

abbrev pub is_gap : ℕ → Bool
is_gap b = not (is_letter b)

-- the runs of a word's bytes, and empty ones where two gaps meet
abbrev pub words_in : List ℕ → List (List ℕ)
words_in bytes = slice_split is_gap bytes

-- one of the words is a literal out of range
abbrev pub has_bad_word : List ℕ → Bool
has_bad_word bytes = list_any is_out_of_range (words_in bytes)

-- a literal out of range stands between the brackets of a text
unfoldable pub has_bad_bracket : List ℕ → Bool
has_bad_bracket text = list_any has_bad_word (bracketed text)

-- bytes are parted at the first that passes: those in front of it, and those behind it; none does, and they aren't parted
abbrev pub IsPartedAt : (ℕ → Bool) → List ℕ → Option (Bor (List ℕ) × Bor (List ℕ)) → Type 0
IsPartedAt passes bytes parted = MatchOption parted (length bytes ≤ position_or_len passes bytes) (λ parts.
    (position_or_len passes bytes < length bytes)
    × (parts.0.now ≡ before_first passes bytes)
    × (parts.1.now ≡ after_first passes bytes)
    × (length parts.1.now < length bytes))
