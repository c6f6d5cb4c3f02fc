-- What the forms say that speak of kinds of value.
use Rattle.std.specs.Prelude.{ℕ, true, List, [], ◌∷◌, ◌++◌, fold, map, Option, Some, None, if◌then◌else◌}
use Rattle.i7_lexer.specs.declared.token.Token.{Token}
use Rattle.i7_sentences.specs.Names.{name_of, named_in, names_from, Words}
use Rattle.i7_sentences.specs.ValueForms.{is_plural}
use Rattle.i7_sentences.specs.declared.name.Name.{Name}
use Rattle.i7_sentences.specs.declared.name.NameArticle.TheVariants as article
use Rattle.i7_sentences.specs.declared.sentence.Assertion.{Assertion}
use Rattle.i7_sentences.specs.declared.sentence.Assertion.TheVariants as assertion

-- words parted by one space
abbrev pub with_space : List ℕ → List ℕ → List ℕ
with_space [] word = word
with_space (b ∷ bytes) word = (b ∷ bytes) ++ 32 ∷ word

abbrev pub spaced : Words → List ℕ
spaced words = fold with_space [] words

-- the name of these words, without an article
abbrev pub name_with : Words → Name
name_with words = record { text = spaced words; article = article.None }

-- the first of the kinds whose plural the words are
abbrev pub kind_of_plural : List Words → List Token → Words
kind_of_plural [] words = named_in words
kind_of_plural (kind ∷ kinds) words = if is_plural words kind then kind else kind_of_plural kinds words

abbrev pub kind_of_value : List (List Token) → Option Assertion
kind_of_value (name ∷ []) = Some (assertion.ValueKind (name_of name))
kind_of_value _ = None

abbrev pub values : List Words → List (List Token) → Option Assertion
values kinds (plural ∷ names ∷ []) = Some (assertion.Values (name_with (kind_of_plural kinds plural)) (map name_of (names_from true names)))
values kinds _ = None

abbrev pub has_value : List (List Token) → Option Assertion
has_value (kind ∷ property ∷ []) = Some (assertion.HasValue (name_of kind) (name_of property))
has_value _ = None

abbrev pub usual_value : List Token → List Token → List Token → Option Assertion
usual_value property kind value = Some (assertion.UsuallyValue (name_of property) (name_of kind) (name_of value))

abbrev pub usually_value : List (List Token) → Option Assertion
usually_value (property ∷ kind ∷ value ∷ []) = usual_value property kind value
usually_value _ = None

abbrev pub own_value : List Token → List Token → List Token → Option Assertion
own_value property object value = Some (assertion.ValueOf (name_of property) (name_of object) (name_of value))

abbrev pub value_of : List (List Token) → Option Assertion
value_of (property ∷ object ∷ value ∷ []) = own_value property object value
value_of _ = None
