-- The commands of a typed line: it is cut at each full stop and at each word `then`.
use Rattle.std.specs.Prelude.{ℕ, nat_lt, Bool, true, false, ◌||◌, ◌==◌, List, [], ◌∷◌, codes, filter, flat_map, length}
use Rattle.std.specs.List.{slice_split}
use Rattle.world_meaning.specs.Reading.{words_of}
use Rattle.world_meaning.specs.Spelling.{is_spelled}

abbrev pub is_full_stop : ℕ → Bool
is_full_stop b = b == 46

abbrev pub is_then : List ℕ → Bool
is_then word = is_spelled word (codes "then")

abbrev pub has_words : List (List ℕ) → Bool
has_words [] = false
has_words (word ∷ words) = true

-- of a piece without a full stop
abbrev pub parted_at_then : List ℕ → List (List (List ℕ))
parted_at_then piece = slice_split is_then (words_of piece)

-- the words of each command; what is blank between two cuts is none
unfoldable pub commands_of : List ℕ → List (List (List ℕ))
commands_of line = filter has_words (flat_map parted_at_then (slice_split is_full_stop line))

-- more than 255 bytes, or than 32 words parted by blanks
abbrev pub is_too_long : List ℕ → Bool
is_too_long line = nat_lt 255 (length line) || nat_lt 32 (length (words_of line))

-- what a line is made of
pub data Parts : Type 0 where
  -- no command
  Blank : Parts
  -- too much
  Overlong : Parts
  -- a command and those behind it
  Commands : List (List ℕ) → List (List (List ℕ)) → Parts

abbrev pub parted : Bool → List (List (List ℕ)) → Parts
parted too_long [] = Blank
parted true (command ∷ commands) = Overlong
parted false (command ∷ commands) = Commands command commands

-- a line without a command is blank, however long it is
abbrev pub parts_of : List ℕ → Parts
parts_of line = parted (is_too_long line) (commands_of line)
