-- How a form is printed: its words as they are spelled, what a letter stands for in capitals, one space between them.
use Rattle.std.specs.Prelude.{ℕ, List, [], ◌∷◌, ◌++◌, codes, if◌then◌else◌}
use Rattle.std.specs.List.{flat_map}
use denote.Enum.Bare.{sameb}
use Rattle.i7_sentences.specs.Keywords.{Row, all_keywords}
use Rattle.i7_sentences.specs.contracts.keyword.Keyword.{the_type}
use Rattle.i7_sentences.specs.declared.keyword.Keyword.{Keyword}
use Rattle.i7_sentences.specs.declared.class.Class.{Class}
use Rattle.i7_sentences.specs.declared.class.Class.TheVariants.{Words, Name, Names, What, Usual, Article, Side, Number, Text, Texts, Head, Body, Asked}
use Rattle.i7_sentences.specs.declared.form.Piece.{Piece}
use Rattle.i7_sentences.specs.declared.form.Piece.TheVariants.{Word, Letter}
use Rattle.i7_sentences.specs.Forms.{Variant}
use Rattle.i7_sentences.specs.declared.form.Form.{Form}

abbrev pub letter : Class → List ℕ
letter Words = codes "WORDS"
letter Name = codes "NAME"
letter Names = codes "NAMES"
letter What = codes "WHAT"
letter Usual = codes "USUAL"
letter Article = codes "ARTICLE"
letter Side = codes "SIDE"
letter Number = codes "NUMBER"
letter Text = codes "TEXT"
letter Texts = codes "TEXTS"
letter Head = codes "HEAD"
letter Body = codes "BODY"
letter Asked = codes "ASKED"

abbrev pub spelling_among : Keyword → List Row → List ℕ
spelling_among keyword [] = []
spelling_among keyword (row ∷ rows) = if sameb the_type row.keyword keyword then row.spelling else spelling_among keyword rows

-- as the table of keywords spells it
abbrev pub spelling : Keyword → List ℕ
spelling keyword = spelling_among keyword (flat_map (λ rows. rows) all_keywords)

abbrev pub printed_piece : Piece → List ℕ
printed_piece (Word keyword) = spelling keyword
printed_piece (Letter class) = letter class

abbrev pub printed : List Piece → List ℕ
printed [] = []
printed (piece ∷ []) = printed_piece piece
printed (piece ∷ pieces) = printed_piece piece ++ codes " " ++ printed pieces

-- a variant: what it is, and how it is printed
abbrev pub printed_variant : Variant → Form × List ℕ
printed_variant variant = (variant.form, printed variant.pieces)
