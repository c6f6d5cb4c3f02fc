-- Words as they are written, the case of letters aside.
use Rattle.std.specs.Prelude.{ℕ, Bool, true, false, not, ◌&&◌, List, [], ◌∷◌, ◌++◌, Option, Some, None, codes, fold, is_some, if◌then◌else◌}
use Rattle.world_meaning.specs.Spelling.{is_article, is_spelled, lowered}
use Rattle.i7_conditions.specs.declared.mark.Mark.{Mark}
use Rattle.i7_conditions.specs.declared.mark.Mark.TheVariants.{Room, Door}

-- a word's bytes
abbrev pub Word : Type 0
Word = List ℕ

unfoldable pub is_from : Word → Bool
is_from word = is_spelled word (codes "from")

unfoldable pub is_not : Word → Bool
is_not word = is_spelled word (codes "not")

-- `the room DIRECTION from ROOM`, `the door DIRECTION from ROOM`
unfoldable pub beyond_of : Word → Option Mark
beyond_of word = if is_spelled word (codes "room") then Some Room else (if is_spelled word (codes "door") then Some Door else None)

abbrev pub begins_beyond : List Word → Bool
begins_beyond [] = false
begins_beyond (word ∷ words) = is_some (beyond_of word)

abbrev pub is_empty : List Word → Bool
is_empty [] = true
is_empty (word ∷ words) = false

-- one article in front is free, unless it is all there is
abbrev pub without_article : List Word → List Word
without_article [] = []
without_article (first ∷ rest) = if is_article first && not (is_empty rest) then rest else first ∷ rest

-- words parted by one space
abbrev pub with_word : List ℕ → Word → List ℕ
with_word [] word = word
with_word (b ∷ bytes) word = (b ∷ bytes) ++ 32 ∷ word

abbrev pub spelled : List Word → List ℕ
spelled words = fold with_word [] words

-- the name that words spell, in small letters
abbrev pub key_of : List Word → List ℕ
key_of words = lowered (spelled words)
