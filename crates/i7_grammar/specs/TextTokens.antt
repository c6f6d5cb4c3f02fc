-- The words and slots of a text that commands are understood by: `weigh [something] with [something]`.
use Rattle.std.specs.Prelude.{ℕ, codes, Bool, ◌==◌, ◌||◌, List, [], ◌∷◌, ◌++◌, map, if◌then◌else◌}
use Rattle.std.specs.List.{after_first, before_first, flat_map, list_any, slice_split}
use Rattle.world_meaning.specs.Spelling.{is_spelled}
use Rattle.play_meaning.specs.Grammar.{Direction, Something, Token, Word}
use Rattle.i7_sentences.specs.BracketedWords.{is_byte}
use Rattle.i7_sentences.specs.TextPieces.{parts_of}

-- a space, a tab or a line feed
abbrev pub is_blank : ℕ → Bool
is_blank b = b == 32 || b == 9 || b == 10

-- no word stands between two blanks that follow each other
abbrev pub word_run : List ℕ → List (List ℕ)
word_run [] = []
word_run (b ∷ bytes) = (b ∷ bytes) ∷ []

-- the words among bytes: what stands between blanks
abbrev pub words_among : List ℕ → List (List ℕ)
words_among bytes = flat_map word_run (slice_split is_blank bytes)

-- the slot that is told by words between brackets
abbrev pub slot_of : List (List ℕ) → Token
slot_of [] = Something
slot_of (word ∷ words) = if is_spelled word (codes "direction") then Direction else Something

abbrev pub word_tokens : List ℕ → List Token
word_tokens bytes = map Word (words_among bytes)

-- what stands behind a `[`: a slot up to the first `]`, and behind that words
abbrev pub behind_bracket : List ℕ → List Token
behind_bracket part = slot_of (words_among (before_first (is_byte 93) part)) ∷ word_tokens (after_first (is_byte 93) part)

abbrev pub tokens_in : List (List ℕ) → List Token
tokens_in [] = []
tokens_in (front ∷ parts) = word_tokens front ++ flat_map behind_bracket parts

-- words in front of the first `[`, and what stands behind each
unfoldable pub tokens_of : List ℕ → List Token
tokens_of text = tokens_in (parts_of text)

-- a slot stands in the text
abbrev pub has_slot : List ℕ → Bool
has_slot text = list_any (is_byte 91) text
