-- The reserved words: where in the letters of a form none may stand.
use Rattle.std.specs.Prelude.{Bool, true, false, not, ◌&&◌, ◌||◌, List, [], ◌∷◌}
use Rattle.std.specs.List.{list_any, slice_split}
use Rattle.i7_lexer.specs.declared.token.Token.{Token}
use Rattle.i7_sentences.specs.Keywords.{is_article, is_one_of, is_reserved, is_sign}
use Rattle.i7_sentences.specs.Names.{name_words, names_from}
use Rattle.i7_sentences.specs.declared.keyword.Keyword.TheVariants as keyword
use Rattle.i7_sentences.specs.declared.keyword.TheConstants.{RESERVED}
use Rattle.i7_sentences.specs.declared.class.Class.{Class}
use Rattle.i7_sentences.specs.declared.class.Class.TheVariants as class
use Rattle.i7_sentences.specs.declared.form.Piece.{Piece}
use Rattle.i7_sentences.specs.declared.form.Piece.TheVariants.{Word, Letter}

-- a name holds a reserved word, its one free article aside
abbrev pub is_reserved_name : List Token → Bool
is_reserved_name letter = list_any is_reserved (name_words letter)

-- a reserved word that isn't an article or `not`
unfoldable pub is_stray : Token → Bool
is_stray token = is_one_of RESERVED token && not (is_sign keyword.Not token)

-- the same where `and` parts adjectives: it stands between two of them
unfoldable pub is_stray_beside_and : Token → Bool
is_stray_beside_and token = is_stray token && not (is_sign keyword.And token)

-- no words are an adjective, nor is an article or `not` alone
abbrev pub is_no_adjective : List Token → Bool
is_no_adjective [] = true
is_no_adjective (token ∷ []) = is_article token || is_sign keyword.Not token
is_no_adjective (token ∷ next ∷ more) = false

-- whether a letter of the class holds a reserved word where none may stand
abbrev pub has_reserved_in : Class → List Token → Bool
has_reserved_in class.Name letter = is_reserved_name letter
has_reserved_in class.Names letter = list_any is_reserved_name (names_from true letter)
has_reserved_in class.What letter = list_any is_stray letter
has_reserved_in class.Usual letter = list_any is_stray_beside_and letter || list_any is_no_adjective (slice_split (is_sign keyword.And) letter)
has_reserved_in _ letter = false

-- the letters of these pieces
abbrev pub has_reserved_among : List Piece → List (List Token) → Bool
has_reserved_among [] letters = false
has_reserved_among (Word keyword ∷ pieces) letters = has_reserved_among pieces letters
has_reserved_among (Letter class ∷ pieces) [] = false
has_reserved_among (Letter class ∷ pieces) (letter ∷ letters) = has_reserved_in class letter || has_reserved_among pieces letters
