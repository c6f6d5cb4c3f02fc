-- Which words and marks of forms stand among tokens, as a table by their numbers.
use Rattle.std.specs.Prelude.{ℕ, Bool, true, false, not, List, get_or, slice_set, replicate, fold}
use denote.Enum.Declared.{tag_of}
use Rattle.i7_lexer.specs.declared.token.Token.{Token}
use Rattle.i7_sentences.specs.contracts.keyword.Keyword.{the_type}
use Rattle.i7_sentences.specs.Keywords.{signs_of}
use Rattle.i7_sentences.specs.declared.keyword.Keyword.{Keyword}
use Rattle.i7_sentences.specs.declared.form.Piece.{Piece}
use Rattle.i7_sentences.specs.declared.form.Piece.TheVariants.{Word, Letter}

-- the place of a word or mark in the table
abbrev pub place_of : Keyword → ℕ
place_of keyword = tag_of the_type keyword

-- past the table's end each is marked
abbrev pub is_marked : List Bool → Keyword → Bool
is_marked table keyword = get_or table (place_of keyword) true

abbrev pub marked : List Bool → Keyword → List Bool
marked table keyword = slice_set table (place_of keyword) true

unfoldable pub no_marks : List Bool
no_marks = replicate 104 false

-- the table of the words and marks among these tokens
abbrev pub table_of : List Token → List Bool
table_of tokens = fold marked no_marks (signs_of tokens)

-- whether the piece is a word or mark of the form's own that isn't marked
abbrev pub is_unmarked : List Bool → Piece → Bool
is_unmarked table (Word keyword) = not (is_marked table keyword)
is_unmarked table (Letter class) = false
