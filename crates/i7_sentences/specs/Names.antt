-- Names as sentences mention them.
use Rattle.std.specs.Prelude.{ℕ, ◌+◌, true, fold, map, Bool, false, ◌&&◌, ◌||◌, List, [], ◌∷◌, ◌++◌, if◌then◌else◌}
use Rattle.i7_lexer.specs.declared.token.Token.{Token}
use Rattle.i7_sentences.specs.Classes.{is_comma}
use Rattle.i7_sentences.specs.Keywords.{is_article, is_sign}
use Rattle.i7_sentences.specs.Words.{is_word, word_of}
use Rattle.i7_sentences.specs.declared.keyword.Keyword.TheVariants as keyword
use Rattle.i7_sentences.specs.declared.name.Name.{Name}
use Rattle.i7_sentences.specs.declared.name.NameArticle.{NameArticle}
use Rattle.i7_sentences.specs.declared.name.NameArticle.TheVariants as article

-- one article stands in front, and it isn't all there is
abbrev pub has_article : List Token → Bool
has_article [] = false
has_article (first ∷ []) = false
has_article (first ∷ next ∷ more) = is_article first

abbrev pub rest_of : List Token → List Token
rest_of [] = []
rest_of (first ∷ rest) = rest

-- a name without the article in front
abbrev pub name_words : List Token → List Token
name_words letter = if has_article letter then rest_of letter else letter

abbrev pub is_some_article : List Token → Bool
is_some_article [] = false
is_some_article (first ∷ rest) = is_sign keyword.Some first

abbrev pub article_of : List Token → NameArticle
article_of letter = if has_article letter then (if is_some_article letter then article.Some else article.Plain) else article.None

-- words as they are written
abbrev pub Words : Type 0
Words = List (List ℕ)

-- the words of a letter, as they are written
abbrev pub words_in : List Token → Words
words_in letter = map word_of letter

-- the same without the one free article in front
abbrev pub named_in : List Token → Words
named_in letter = words_in (name_words letter)

-- words parted by one space
abbrev pub with_word : List ℕ → Token → List ℕ
with_word [] word = word_of word
with_word (b ∷ bs) word = (b ∷ bs) ++ 32 ∷ word_of word

abbrev pub joined : List Token → List ℕ
joined words = fold with_word [] words

-- the name that words mention
unfoldable pub name_of : List Token → Name
name_of letter = record { text = joined (name_words letter); article = article_of letter }

-- a word goes in front of the first name
abbrev pub onto_name : Token → List (List Token) → List (List Token)
onto_name word [] = (word ∷ []) ∷ []
onto_name word (name ∷ names) = (word ∷ name) ∷ names

abbrev pub opens_with_word : List Token → Bool
opens_with_word [] = false
opens_with_word (word ∷ words) = is_word word

abbrev pub is_and : Token → Bool
is_and token = is_sign keyword.And token

abbrev pub is_joint : Token → Bool
is_joint token = is_comma token || is_and token

-- a `,` parts two names, and so does an `and` with a word behind it; at a name's end it belongs to the name
abbrev pub parts_names : Token → List Token → Bool
parts_names word words = is_comma word || (is_and word && opens_with_word words)

-- the names of a list, from its first word or from within a name: what parts two names is in none, and
-- the first word of a name parts none
abbrev pub names_from : Bool → List Token → List (List Token)
names_from true [] = []
names_from false [] = [] ∷ []
names_from true (word ∷ words) = onto_name word (names_from false words)
names_from false (word ∷ words) = if parts_names word words then [] ∷ names_from true words else onto_name word (names_from false words)

-- how many words stand in front of the first that parts two names
abbrev pub unjoined : List Token → ℕ
unjoined [] = 0
unjoined (word ∷ words) = if parts_names word words then 0 else 1 + unjoined words

-- how many words the first name of a list has
abbrev pub name_len : List Token → ℕ
name_len [] = 0
name_len (word ∷ words) = 1 + unjoined words
