-- Words and marks of forms' own without which no variant of a form fits.
use Rattle.std.specs.Prelude.{ℕ, ◌==◌, Bool, true, false, not, List, [], ◌∷◌, Option, Some, None}
use Rattle.std.specs.List.{list_any}
use Rattle.i7_sentences.specs.Forms.{Variant}
use Rattle.i7_sentences.specs.Signs.{is_marked, place_of}
use Rattle.i7_sentences.specs.declared.keyword.Keyword.{Keyword}
use Rattle.i7_sentences.specs.declared.form.Piece.{Piece}
use Rattle.i7_sentences.specs.declared.form.Piece.TheVariants.{Word, Letter}

-- the piece is the word or mark at this place of the table of signs
abbrev pub is_at : ℕ → Piece → Bool
is_at place (Word keyword) = place_of keyword == place
is_at place (Letter class) = false

-- the variant has the word or mark, if one is told
abbrev pub needs : Option Keyword → Variant → Bool
needs None variant = true
needs (Some keyword) variant = list_any (is_at (place_of keyword)) variant.pieces

-- a word or mark is told that isn't marked
abbrev pub is_lacking : List Bool → Option Keyword → Bool
is_lacking table None = false
is_lacking table (Some keyword) = not (is_marked table keyword)
