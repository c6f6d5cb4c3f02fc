-- The words and marks of sentence forms: each token is one of them or none.
use Rattle.std.specs.Prelude.{ℕ, Bool, false, ◌||◌, List, [], ◌∷◌, map, length, Option, Some, None, if◌then◌else◌}
use Rattle.std.specs.List.{filter_map, list_any, slice_get}
use denote.Enum.Bare.{sameb}
use Rattle.world_meaning.specs.Spelling.{is_spelled}
use Rattle.i7_lexer.specs.declared.token.Token.{Token}
use Rattle.i7_lexer.specs.declared.token.TokenKind.{TokenKind}
use Rattle.i7_lexer.specs.declared.token.TokenKind.TheVariants.{Text, Word, Mark}
use Rattle.i7_sentences.specs.Words.{as_read}
use Rattle.i7_sentences.specs.contracts.keyword.Keyword.{the_type}
use Rattle.i7_sentences.specs.declared.keyword.Keyword.{Keyword}
use Rattle.i7_sentences.specs.declared.keyword.TheConstants.{KEYWORDS, ARTICLES, RESERVED}

-- a keyword and its spelling in small letters
pub record Row : Type 0 where
  pub spelling : List ℕ
  pub keyword : Keyword

-- the keywords by the length of their spellings
unfoldable pub all_keywords : List (List Row)
all_keywords = map (λ rows. map (λ row. record { spelling = row.0.now; keyword = row.1 }) rows.now) KEYWORDS

abbrev pub keyword_in : List ℕ → List Row → Option Keyword
keyword_in word [] = None
keyword_in word (row ∷ rows) = if is_spelled word row.spelling then Some row.keyword else keyword_in word rows

abbrev pub keyword_among : List ℕ → Option (List Row) → Option Keyword
keyword_among word None = None
keyword_among word (Some rows) = keyword_in word rows

-- the keyword that is spelled so, letter case aside
unfoldable pub keyword_spelled : List ℕ → Option Keyword
keyword_spelled word = keyword_among word (slice_get all_keywords (length word))

abbrev pub keyword_in_kind : TokenKind → Option Keyword
keyword_in_kind (Text text) = None
keyword_in_kind (Word word) = keyword_spelled (as_read word)
keyword_in_kind (Mark mark) = keyword_spelled (mark ∷ [])

-- the keyword that a token is, if it is one
abbrev pub keyword_of : Token → Option Keyword
keyword_of token = keyword_in_kind token.kind

abbrev pub is_same : Option Keyword → Keyword → Bool
is_same None keyword = false
is_same (Some found) keyword = sameb the_type found keyword

-- whether the token is this word or mark
unfoldable pub is_sign : Keyword → Token → Bool
is_sign keyword token = is_same (keyword_of token) keyword

-- whether the token is one of these words or marks
abbrev pub is_one_of : List Keyword → Token → Bool
is_one_of keywords token = list_any (λ keyword. is_sign keyword token) keywords

-- `a`, `an`, `the` or `some`
abbrev pub is_article : Token → Bool
is_article token = is_one_of ARTICLES token

-- an article, or a word that joins others or that rules and kinds are made with
abbrev pub is_reserved : Token → Bool
is_reserved token = is_article token || is_one_of RESERVED token

-- the words and marks of forms among the tokens, in order
abbrev pub signs_of : List Token → List Keyword
signs_of tokens = filter_map keyword_of tokens

-- whether the word or mark is one of these
abbrev pub is_among : Keyword → List Keyword → Bool
is_among keyword signs = list_any (λ sign. sameb the_type sign keyword) signs
