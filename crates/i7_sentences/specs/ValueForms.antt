-- The forms that speak of kinds of value, and how a sentence is read where some are declared.
use Rattle.std.specs.Prelude.{◌≡◌, ◌⊎◌, Bool, true, false, ◌&&◌, List, [], ◌∷◌, ◌++◌, map, if◌then◌else◌}
use Rattle.std.specs.List.{All, list_any}
use Rattle.world_meaning.specs.Spelling.{is_spelled, lowered}
use Rattle.i7_lexer.specs.declared.token.Token.{Token}
use Rattle.i7_sentences.specs.Forms.{Fits, IsReading, IsUnread, Variant, are_shorter, higher_forms, lower_forms, middle_forms}
use Rattle.i7_sentences.specs.Names.{named_in, Words}
use Rattle.i7_sentences.specs.Plurals.{plural_of}
use Rattle.i7_sentences.specs.TextPieces.{are_spelled}
use Rattle.i7_sentences.specs.declared.value_form.KindLetter.{KindLetter}
use Rattle.i7_sentences.specs.declared.value_form.KindLetter.TheVariants.{First, FirstPlural, Last}
use Rattle.i7_sentences.specs.declared.value_form.TheConstants.{VALUE_FORMS}

-- a form, and which of its letters must name a kind of value
pub record ValueForm : Type 0 where
  pub place : KindLetter
  pub variant : Variant

-- the value forms, lowest first
unfoldable pub value_forms : List ValueForm
value_forms = map (λ row. record { place = row.0; variant = record { form = row.1.0; pieces = row.1.1.now } }) VALUE_FORMS

-- words name a kind, their article aside and whatever their case
abbrev pub is_named : List Token → Words → Bool
is_named words kind = are_spelled (named_in words) kind

abbrev pub are_none : Words → Words → Bool
are_none [] [] = true
are_none _ _ = false

-- the words of a plural: the last is the plural of the name's last
abbrev pub are_plural : Words → Words → Bool
are_plural [] names = false
are_plural (word ∷ words) [] = false
are_plural (word ∷ words) (name ∷ names) =
    if are_none words names then is_spelled word (plural_of (lowered name)) else is_spelled word name && are_plural words names

-- or are its plural
abbrev pub is_plural : List Token → Words → Bool
is_plural words kind = are_plural (named_in words) kind

abbrev pub names_one : KindLetter → List Words → List Token → Bool
names_one First kinds words = list_any (is_named words) kinds
names_one FirstPlural kinds words = list_any (is_plural words) kinds
names_one Last kinds words = list_any (is_named words) kinds

abbrev pub first_letter : List (List Token) → List Token
first_letter [] = []
first_letter (letter ∷ letters) = letter

abbrev pub last_letter : List (List Token) → List Token
last_letter [] = []
last_letter (letter ∷ []) = letter
last_letter (letter ∷ next ∷ letters) = last_letter (next ∷ letters)

abbrev pub kind_letter : KindLetter → List (List Token) → List Token
kind_letter First letters = first_letter letters
kind_letter FirstPlural letters = first_letter letters
kind_letter Last letters = last_letter letters

-- The form's pieces fit these words, and the letter for its kind names one of these kinds of value.
pub record FitsValue (kinds : List Words) (form : ValueForm) (tokens : List Token) (letters : List (List Token)) : Type 0 where
  pub fits : Fits form.variant.pieces tokens letters
  pub names : names_one form.place kinds (kind_letter form.place letters) ≡ true

-- the form doesn't fit, whatever its letters stand for
abbrev pub IsNoValue : List Words → List Token → ValueForm → Type 0
IsNoValue kinds tokens form = (letters : List (List Token)) → FitsValue kinds form tokens letters → ⊥

-- No lower value form fits, and this one does with the shortest letters.
pub record ReadsValue (forms : List ValueForm) (kinds : List Words) (tokens : List Token) (form : ValueForm) (letters : List (List Token)) : Type 0 where
  pub lower : List ValueForm
  pub higher : List ValueForm
  pub place : forms ≡ lower ++ form ∷ higher
  pub lowest : All (IsNoValue kinds tokens) lower
  pub fits : FitsValue kinds form tokens letters
  pub shortest : (others : List (List Token)) → FitsValue kinds form tokens others → are_shorter others letters ≡ false

-- no value form fits
abbrev pub HasNoValue : List Words → List Token → Type 0
HasNoValue kinds tokens = All (IsNoValue kinds tokens) value_forms

-- a value form reads the words as this variant
pub record IsValueReading (kinds : List Words) (tokens : List Token) (variant : Variant) (letters : List (List Token)) : Type 0 where
  pub form : ValueForm
  pub is_variant : variant ≡ form.variant
  pub reads : ReadsValue value_forms kinds tokens form letters

-- The forms behind the lower ones read a sentence: a middle form does; or none fits, and a value form does; or none of these fits,
-- and a higher form does.
abbrev pub IsReadLater : List Words → List Token → Variant → List (List Token) → Type 0
IsReadLater kinds tokens variant letters =
    IsReading middle_forms tokens variant letters
    ⊎ (IsUnread middle_forms tokens × IsValueReading kinds tokens variant letters)
    ⊎ (IsUnread middle_forms tokens × HasNoValue kinds tokens × IsReading higher_forms tokens variant letters)

-- none of them fits
abbrev pub IsUnreadLater : List Words → List Token → Type 0
IsUnreadLater kinds tokens = IsUnread middle_forms tokens × HasNoValue kinds tokens × IsUnread higher_forms tokens

-- A sentence is read by a lower form; or none fits, and a later form reads it.
abbrev pub IsReadWith : List Words → List Token → Variant → List (List Token) → Type 0
IsReadWith kinds tokens variant letters = IsReading lower_forms tokens variant letters ⊎ (IsUnread lower_forms tokens × IsReadLater kinds tokens variant letters)

-- no form fits
abbrev pub IsUnreadWith : List Words → List Token → Type 0
IsUnreadWith kinds tokens = IsUnread lower_forms tokens × IsUnreadLater kinds tokens
