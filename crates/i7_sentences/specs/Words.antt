-- What a token is: a word, a text or a mark, and what it may name.
use Rattle.std.specs.Prelude.{ℕ, Bool, true, false, List, [], ◌∷◌, Option, codes, find, if◌then◌else◌}
use Rattle.std.specs.Char.{eq_ignore_ascii_case}
use Rattle.std.specs.List.{list_any}
use Rattle.world_meaning.specs.Spelling.{is_spelled}
use Rattle.world_meaning.specs.Directions.{all_directions, direction_name}
use Rattle.world_meaning.specs.declared.direction.Direction.{Direction}
use Rattle.i7_lexer.specs.declared.token.Token.{Token}
use Rattle.i7_lexer.specs.declared.token.TokenKind.{TokenKind}
use Rattle.i7_lexer.specs.declared.token.TokenKind.TheVariants.{Text, Word, Mark}
use Rattle.i7_sentences.specs.declared.word.TheConstants.{COMPASS}

-- `are` reads as `is`
unfoldable pub as_read : List ℕ → List ℕ
as_read word = if is_spelled word (codes "are") then codes "is" else word

abbrev pub word_in : TokenKind → List ℕ
word_in (Text text) = []
word_in (Word word) = as_read word
word_in (Mark mark) = []

-- the bytes of a word as it is read, which is as it is written but for `are`; none of a text or a mark
abbrev pub word_of : Token → List ℕ
word_of token = word_in token.kind

abbrev pub is_word_kind : TokenKind → Bool
is_word_kind (Text text) = false
is_word_kind (Word word) = true
is_word_kind (Mark mark) = false

abbrev pub is_word : Token → Bool
is_word token = is_word_kind token.kind

abbrev pub is_text_kind : TokenKind → Bool
is_text_kind (Text text) = true
is_text_kind (Word word) = false
is_text_kind (Mark mark) = false

abbrev pub is_text : Token → Bool
is_text token = is_text_kind token.kind

-- a word names a direction by its name; short words aren't read in sentences
abbrev pub names_direction : List ℕ → Direction → Bool
names_direction word d = is_spelled word (direction_name d)

abbrev pub direction_named : List ℕ → Option Direction
direction_named word = find (names_direction word) all_directions

-- whether the word begins as a direction's name does
unfoldable pub may_lead : List ℕ → Bool
may_lead [] = false
may_lead (letter ∷ more) = list_any (λ first. eq_ignore_ascii_case letter first) COMPASS
