-- The words that a command may name an object by.
use Rattle.std.specs.Prelude.{ℕ, ◌-◌, Bool, not, ◌==◌, List, [], ◌∷◌, ◌++◌, length, filter, slice_get, Option, Some, None, if◌then◌else◌, codes}
use Rattle.std.specs.List.{slice_split}
use Rattle.world_meaning.specs.declared.direction.Direction.{Direction}
use Rattle.world_meaning.specs.Directions.{all_directions, short_word}
use Rattle.world_meaning.specs.Spelling.{lowered}
use Rattle.world_meaning.specs.declared.tale.Object.{Object}
use Rattle.object_words.specs.Mentions.{first_mentions}

abbrev pub is_blank : ℕ → Bool
is_blank byte = byte == 32

abbrev pub is_word : List ℕ → Bool
is_word bytes = not (length bytes == 0)

-- what stands between the blanks of a text
abbrev pub blank_words : List ℕ → List (List ℕ)
blank_words bytes = filter is_word (slice_split is_blank bytes)

-- the short word of a direction
abbrev pub short_words : Option Direction → List (List ℕ)
short_words None = []
short_words (Some d) = short_word d ∷ []

abbrev pub player_words : List (List ℕ)
player_words = codes "me" ∷ codes "myself" ∷ codes "self" ∷ codes "yourself" ∷ []

-- the words that the player, object 0, and the directions, 1 to 12, have beside their names'
unfoldable pub more_words : ℕ → List (List ℕ)
more_words o = if o == 0 then player_words else short_words (slice_get all_directions (o - 1))

-- the words of object o: those of its name in small letters, then the others, each word once
unfoldable pub words_for : ℕ → List ℕ → List (List ℕ)
words_for o name = first_mentions (blank_words (lowered name) ++ more_words o)

abbrev pub words_in : ℕ → Option Object → List (List ℕ)
words_in o None = []
words_in o (Some object) = words_for o object.name
