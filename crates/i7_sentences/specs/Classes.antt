-- The classes of words that a form's letters stand for.
use Rattle.std.specs.Prelude.{◌≡◌, ◌≢◌, Bool, true, false, not, ◌&&◌, ◌||◌, List, [], ◌∷◌, ◌++◌, is_some}
use Rattle.std.specs.List.{list_all}
use Rattle.i7_lexer.specs.declared.token.Token.{Token}
use Rattle.i7_sentences.specs.Words.{word_of, is_word, is_text, direction_named}
use Rattle.i7_sentences.specs.Keywords.{is_article, is_sign}
use Rattle.world_meaning.specs.Literals.{is_literal}
use Rattle.i7_sentences.specs.declared.keyword.Keyword.TheVariants as keyword
use Rattle.i7_sentences.specs.declared.class.Class.{Class}
use Rattle.i7_sentences.specs.declared.class.Class.TheVariants as class

-- one or more such tokens
abbrev pub IsRun : (Token → Bool) → List Token → Type 0
IsRun test tokens = (tokens ≢ []) × (list_all test tokens ≡ true)

-- one such token alone
pub record IsAlone (test : Token → Bool) (tokens : List Token) : Type 0 where
  pub token : Token
  pub alone : tokens ≡ token ∷ []
  pub passes : test token ≡ true

unfoldable pub is_comma : Token → Bool
is_comma token = is_sign keyword.Comma token

unfoldable pub is_listed_word : Token → Bool
is_listed_word token = is_word token && not (is_comma token)

-- an item of a list: words, among which an `and` may part two names
abbrev pub IsListed : List Token → Type 0
IsListed [] = ⊥
IsListed (first ∷ more) = (is_word first ≡ true) × (list_all is_listed_word more ≡ true)

-- names: items parted by `,`
pub data IsNames : List Token → Type 0 where
  one_item : (item : List Token) → IsListed item → IsNames item
  more_items : (item items : List Token) (comma : Token) → IsListed item → is_comma comma ≡ true → IsNames items → IsNames (item ++ comma ∷ items)

-- `above` or `below`
unfoldable pub is_vertical : Token → Bool
is_vertical token = is_sign keyword.Above token || is_sign keyword.Below token

unfoldable pub is_direction : Token → Bool
is_direction token = is_some (direction_named (word_of token))

-- `inside` or `outside`
unfoldable pub is_inner : Token → Bool
is_inner token = is_sign keyword.Inside token || is_sign keyword.Outside token

-- what stands behind a direction's name: `of`, and behind `inside` and `outside` also `from`
unfoldable pub is_behind : Token → Token → Bool
is_behind direction token = is_sign keyword.Of token || (is_inner direction && is_sign keyword.From token)

-- `above`, `below`, a direction and `of`, `inside from` or `outside from`
abbrev pub is_side : List Token → Bool
is_side [] = false
is_side (token ∷ []) = is_vertical token
is_side (token ∷ next ∷ []) = not (is_vertical token) && is_direction token && is_behind token next
is_side (token ∷ next ∷ third ∷ more) = false

unfoldable pub is_number : Token → Bool
is_number token = is_literal (word_of token)

-- a text, or the `or` between texts
unfoldable pub is_choice : Token → Bool
is_choice token = is_text token || is_sign keyword.Or token

-- a word or a round bracket, as they stand in a rule's head
unfoldable pub is_head_token : Token → Bool
is_head_token token = is_word token || is_sign keyword.Open token || is_sign keyword.Close token

-- what ends a rule's head: `:` or `,`
unfoldable pub is_body_mark : Token → Bool
is_body_mark token = is_sign keyword.Colon token || is_sign keyword.Comma token

-- what stands behind a rule's head: its mark and something
abbrev pub is_body : List Token → Bool
is_body [] = false
is_body (mark ∷ []) = false
is_body (mark ∷ first ∷ more) = is_body_mark mark

-- how near a thing must be: seen, or carried
unfoldable pub is_degree : Token → Bool
is_degree token = is_sign keyword.Visible token || is_sign keyword.Carried token

-- what an action asks of a noun: `thing`, `visible thing` or `carried thing`
abbrev pub is_asked : List Token → Bool
is_asked [] = false
is_asked (thing ∷ []) = is_sign keyword.Thing thing
is_asked (degree ∷ thing ∷ []) = is_degree degree && is_sign keyword.Thing thing
is_asked (degree ∷ thing ∷ third ∷ more) = false

-- a letter of the class may stand for these words
abbrev pub IsOf : Class → List Token → Type 0
IsOf class.Words tokens = IsRun is_word tokens
IsOf class.Name tokens = IsRun is_word tokens
IsOf class.Names tokens = IsNames tokens
IsOf class.What tokens = IsRun is_word tokens
IsOf class.Usual tokens = IsRun is_word tokens
IsOf class.Article tokens = IsAlone is_article tokens
IsOf class.Side tokens = is_side tokens ≡ true
IsOf class.Number tokens = IsAlone is_number tokens
IsOf class.Text tokens = IsAlone is_text tokens
IsOf class.Texts tokens = IsRun is_choice tokens
IsOf class.Head tokens = IsRun is_head_token tokens
IsOf class.Body tokens = is_body tokens ≡ true
IsOf class.Asked tokens = is_asked tokens ≡ true
