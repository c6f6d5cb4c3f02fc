-- By which form a sentence is understood: one that has the words of a rule or of what a scene begins or ends on, and not its shape, may be
-- a sentence of a later form.
use Rattle.std.specs.Prelude.{◌≡◌, ◌⊎◌, Bool, true, false, ◌&&◌, List, Option, Some, None, if◌then◌else◌}
use Rattle.i7_lexer.specs.declared.token.Token.{Token}
use Rattle.i7_sentences.specs.Forms.{Variant}
use Rattle.i7_sentences.specs.HeardForms.{heard_by}
use Rattle.i7_sentences.specs.Matching.{Found, or_later}
use Rattle.i7_sentences.specs.Names.{Words}
use Rattle.i7_sentences.specs.RuleHeads.{is_rule_form}
use Rattle.i7_sentences.specs.ValueFits.{read_later, read_with}
use Rattle.i7_sentences.specs.ValueForms.{IsReadLater, IsReadWith, IsUnreadLater}
use Rattle.i7_sentences.specs.declared.form.Form.{Form}
use Rattle.i7_sentences.specs.declared.form.Form.TheVariants as form
use Rattle.i7_sentences.specs.declared.heard.Heard.{Heard}
use Rattle.i7_sentences.specs.declared.heard.Heard.TheVariants.{Says, Unread, Reserved}

abbrev pub is_unread : Heard → Bool
is_unread (Says said) = false
is_unread (Unread line) = true
is_unread (Reserved line) = false

-- the forms whose letters have a shape that no class tells: those of rules, and of what a scene begins or ends on
abbrev pub is_shaped : Form → Bool
is_shaped form.SceneBegins = true
is_shaped form.SceneEnds = true
is_shaped other = is_rule_form other

-- such a form reads the words, and they lack its shape
abbrev pub is_passed_on : List Words → List Token → Variant → List (List Token) → Bool
is_passed_on kinds tokens variant letters = is_shaped variant.form && is_unread (heard_by kinds tokens variant letters)

-- so the later forms are looked at, and where none of them fits it is a sentence of this form that isn't understood
unfoldable pub passed_on : List Words → List Token → Found → Option Found
passed_on kinds tokens found =
    if is_passed_on kinds tokens found.variant found.letters then or_later (read_later kinds tokens) (Some found) else Some found

abbrev pub understood_from : List Words → List Token → Option Found → Option Found
understood_from kinds tokens None = None
understood_from kinds tokens (Some found) = passed_on kinds tokens found

-- how a sentence is understood where these kinds of value are declared
unfoldable pub understood_by : List Words → List Token → Option Found
understood_by kinds tokens = understood_from kinds tokens (read_with kinds tokens)

-- ---- the same as a relation

-- a form reads the words, and they aren't passed on
abbrev pub IsKept : List Words → List Token → Variant → List (List Token) → Type 0
IsKept kinds tokens variant letters = IsReadWith kinds tokens variant letters × (is_passed_on kinds tokens variant letters ≡ false)

-- a form reads the words, and they are passed on
abbrev pub IsPassedOn : List Words → List Token → Variant → List (List Token) → Type 0
IsPassedOn kinds tokens variant letters = IsReadWith kinds tokens variant letters × (is_passed_on kinds tokens variant letters ≡ true)

-- they are passed on, and a later form reads them
abbrev pub IsTaken : List Words → List Token → Variant → List (List Token) → Type 0
IsTaken kinds tokens variant letters = ((first : Variant) × (others : List (List Token)) × IsPassedOn kinds tokens first others) × IsReadLater kinds tokens variant letters

-- they are passed on, and no later form reads them
abbrev pub IsLeft : List Words → List Token → Variant → List (List Token) → Type 0
IsLeft kinds tokens variant letters = IsPassedOn kinds tokens variant letters × IsUnreadLater kinds tokens

abbrev pub IsUnderstoodBy : List Words → List Token → Variant → List (List Token) → Type 0
IsUnderstoodBy kinds tokens variant letters = IsKept kinds tokens variant letters ⊎ IsTaken kinds tokens variant letters ⊎ IsLeft kinds tokens variant letters
