-- The words of a typed line, and a noun phrase without its article.
use Rattle.std.specs.Prelude.{ℕ, Bool, not, ◌||◌, ◌==◌, List, [], ◌∷◌, length, filter, if◌then◌else◌}
use Rattle.std.specs.List.{slice_split}
use Rattle.world_meaning.specs.Spelling.{is_article}

abbrev pub is_blank : ℕ → Bool
is_blank b = (b == 32) || (b == 9)

abbrev pub is_word : List ℕ → Bool
is_word piece = not (length piece == 0)

-- the words of a line, parted by blanks
abbrev pub words_of : List ℕ → List (List ℕ)
words_of line = filter is_word (slice_split is_blank line)

-- one article in front of a noun phrase is dropped
abbrev pub noun_of : List (List ℕ) → List (List ℕ)
noun_of [] = []
noun_of (word ∷ words) = if is_article word then words else word ∷ words
