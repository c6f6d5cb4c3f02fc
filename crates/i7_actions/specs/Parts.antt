-- The parts of an action's name, and words that begin with one.
use Rattle.std.specs.Prelude.{Bool, true, false, List, [], ◌∷◌, take, drop, Option, Some, None, codes, if◌then◌else◌}
use Rattle.std.specs.List.{position_or_len}
use Rattle.world_meaning.specs.Spelling.{is_spelled}
use Rattle.i7_conditions.specs.Words.{Word}

unfoldable pub is_it : Word → Bool
is_it word = is_spelled word (codes "it")

abbrev pub behind_first : List Word → List Word
behind_first [] = []
behind_first (word ∷ words) = words

-- the words of a name in front of its first `it`, or all
abbrev pub first_part : List Word → List Word
first_part name = take (position_or_len is_it name) name

-- those behind it, if there is one
abbrev pub second_part : List Word → List Word
second_part name = behind_first (drop (position_or_len is_it name) name)

-- the words behind a part, where words begin with it
abbrev pub behind : List Word → List Word → Option (List Word)
behind [] words = Some words
behind (wanted ∷ part) [] = None
behind (wanted ∷ part) (word ∷ words) = if is_spelled word wanted then behind part words else None

abbrev pub is_at_end : Option (List Word) → Bool
is_at_end None = false
is_at_end (Some []) = true
is_at_end (Some (word ∷ words)) = false

-- words are a name, word by word
abbrev pub is_name : List Word → List Word → Bool
is_name name words = is_at_end (behind name words)
