-- The sentence forms, and what it is for one to fit words, with the shortest letters.
use Rattle.std.specs.Prelude.{◌≡◌, ℕ, ◌==◌, nat_lt, Bool, true, false, if◌then◌else◌, List, [], ◌∷◌, ◌++◌, length, map}
use Rattle.std.specs.List.{All}
use Rattle.i7_lexer.specs.declared.token.Token.{Token}
use Rattle.i7_sentences.specs.Keywords.{is_sign}
use Rattle.i7_sentences.specs.Classes.{IsOf}
use Rattle.i7_sentences.specs.declared.keyword.Keyword.{Keyword}
use Rattle.i7_sentences.specs.declared.class.Class.{Class}
use Rattle.i7_sentences.specs.declared.form.Form.{Form}
use Rattle.i7_sentences.specs.declared.form.Piece.{Piece}
use Rattle.i7_sentences.specs.declared.form.Piece.TheVariants.{Word, Letter}
use Rattle.i7_sentences.specs.declared.sentence_form.TheConstants.{HIGHER_FORMS, LOWER_FORMS, MIDDLE_FORMS}

-- a variant of a form
pub record Variant : Type 0 where
  pub form : Form
  pub pieces : List Piece

-- The word stands in front, and the form goes on behind it.
pub record FitsWord (keyword : Keyword) (goes_on : List Token → List (List Token) → Type 0) (tokens : List Token) (letters : List (List Token)) : Type 0 where
  pub word : Token
  pub rest : List Token
  pub parts : tokens ≡ word ∷ rest
  pub is_word : is_sign keyword word ≡ true
  pub behind : goes_on rest letters

-- A letter stands for words in front that are of its class, and the form goes on behind them.
pub record FitsLetter (class : Class) (goes_on : List Token → List (List Token) → Type 0) (tokens : List Token) (letters : List (List Token)) : Type 0 where
  pub words : List Token
  pub rest : List Token
  pub others : List (List Token)
  pub parts : tokens ≡ words ++ rest
  pub is_of_class : IsOf class words
  pub keeps : letters ≡ words ∷ others
  pub behind : goes_on rest others

-- These pieces fit these words, the letters standing for these lists of words.
abbrev pub Fits : List Piece → List Token → List (List Token) → Type 0
Fits [] tokens letters = (tokens ≡ []) × (letters ≡ [])
Fits (Word keyword ∷ pieces) tokens letters = FitsWord keyword (Fits pieces) tokens letters
Fits (Letter class ∷ pieces) tokens letters = FitsLetter class (Fits pieces) tokens letters

-- the first number is less, or the same and the others come before
abbrev pub comes_before : List ℕ → List ℕ → Bool
comes_before [] [] = false
comes_before [] (b ∷ bs) = true
comes_before (a ∷ more) [] = false
comes_before (a ∷ more) (b ∷ bs) = if a == b then comes_before more bs else nat_lt a b

-- the first letter is shorter, or as long and the second is shorter, and so on
abbrev pub are_shorter : List (List Token) → List (List Token) → Bool
are_shorter letters others = comes_before (map length letters) (map length others)

-- the variant doesn't fit the words, whatever its letters stand for
abbrev pub IsUnfit : List Token → Variant → Type 0
IsUnfit tokens variant = (letters : List (List Token)) → Fits variant.pieces tokens letters → ⊥

-- each fit of the variant has longer letters than these
abbrev pub IsLonger : List Token → List (List Token) → Variant → Type 0
IsLonger tokens letters variant = (others : List (List Token)) → Fits variant.pieces tokens others → are_shorter letters others ≡ true

-- no fit of the variant has shorter letters than these
abbrev pub IsNoShorter : List Token → List (List Token) → Variant → Type 0
IsNoShorter tokens letters variant = (others : List (List Token)) → Fits variant.pieces tokens others → are_shorter others letters ≡ false

-- Of all ways in which a form's variants fit the words, this has the shortest first letter, then
-- the shortest second, and so on, and of those with as long letters its variant stands first.
pub record IsShortestFit (variants : List Variant) (tokens : List Token) (variant : Variant) (letters : List (List Token)) : Type 0 where
  pub before : List Variant
  pub after : List Variant
  pub place : variants ≡ before ++ variant ∷ after
  pub fits : Fits variant.pieces tokens letters
  pub shortest : IsNoShorter tokens letters variant
  pub earlier : All (IsLonger tokens letters) before
  pub later : All (IsNoShorter tokens letters) after

-- no variant of the form fits
abbrev pub AreUnfit : List Token → List Variant → Type 0
AreUnfit tokens variants = All (IsUnfit tokens) variants

-- No lower form fits, and this is the shortest fit of one of its variants.
pub record IsReading (forms : List (List Variant)) (tokens : List Token) (variant : Variant) (letters : List (List Token)) : Type 0 where
  pub lower : List (List Variant)
  pub variants : List Variant
  pub higher : List (List Variant)
  pub place : forms ≡ lower ++ variants ∷ higher
  pub lowest : All (AreUnfit tokens) lower
  pub fit : IsShortestFit variants tokens variant letters

-- no form fits
abbrev pub IsUnread : List (List Variant) → List Token → Type 0
IsUnread forms tokens = All (AreUnfit tokens) forms

-- the forms up to that of what a scene begins or ends on, lowest first
unfoldable pub lower_forms : List (List Variant)
lower_forms = map (λ form. map (λ variant. record { form = variant.0; pieces = variant.1.now }) form.1.now) LOWER_FORMS

-- the forms behind these that are tried before those that speak of kinds of value
unfoldable pub middle_forms : List (List Variant)
middle_forms = map (λ form. map (λ variant. record { form = variant.0; pieces = variant.1.now }) form.1.now) MIDDLE_FORMS

-- the forms that are tried after them
unfoldable pub higher_forms : List (List Variant)
higher_forms = map (λ form. map (λ variant. record { form = variant.0; pieces = variant.1.now }) form.1.now) HIGHER_FORMS
