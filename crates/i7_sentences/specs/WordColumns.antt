-- The columns of letters that are words alone, for which one answer is kept from token to token.
use Rattle.std.specs.Prelude.{Bool, true, false, ◌&&◌, ◌||◌, List, [], ◌∷◌, ◌++◌, length}
use Rattle.i7_lexer.specs.declared.token.Token.{Token}
use Rattle.i7_sentences.specs.Words.{is_word}
use Rattle.i7_sentences.specs.Matching.{looked}
use Rattle.i7_sentences.specs.declared.class.Class.{Class}
use Rattle.i7_sentences.specs.declared.class.Class.TheVariants as class

-- whether a letter of the class is one or more words, whatever they are
abbrev pub is_words : Class → Bool
is_words class.Words = true
is_words class.Name = true
is_words class.Names = false
is_words class.What = true
is_words class.Usual = true
is_words class.Article = false
is_words class.Side = false
is_words class.Number = false
is_words class.Text = false
is_words class.Texts = false
is_words class.Head = false
is_words class.Body = false
is_words class.Asked = false

-- whether a letter that has a word can end in the words left
abbrev pub inside_of : List Bool → List Token → Bool
inside_of behind [] = looked behind 0
inside_of behind (token ∷ tokens) = looked behind (length (token ∷ tokens)) || (is_word token && inside_of behind tokens)

abbrev pub words_column : List Bool → List Token → List Bool
words_column behind [] = false ∷ []
words_column behind (token ∷ tokens) = words_column behind tokens ++ (is_word token && inside_of behind tokens) ∷ []
