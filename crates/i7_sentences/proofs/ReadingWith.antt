-- Where kinds of value are declared, what is found is the reading, and there is no other.
use Rattle.std.proofs.Common.{◌≡◌, inl, inr, ◌⊎◌, List, length, map, refl, ap, sym, ◌∙◌, subst}
use Rattle.std.specs.Prelude.{Option, Some, None}
use Rattle.std.specs.List.{All}
use Rattle.i7_lexer.specs.declared.token.Token.{Token}
use Rattle.i7_sentences.specs.Forms.{Variant, higher_forms, lower_forms, middle_forms}
use Rattle.i7_sentences.specs.Matching.{Found, lowest_fit, or_later}
use Rattle.i7_sentences.specs.Names.{Words}
use Rattle.i7_sentences.specs.ValueFits.{lowest_value, read_later, read_with}
use Rattle.i7_sentences.specs.ValueForms.{FitsValue, HasNoValue, IsNoValue, IsReadLater, IsReadWith, IsUnreadLater, IsUnreadWith, IsValueReading, ReadsValue, ValueForm, value_forms}
use Rattle.i7_sentences.specs.declared.class.Class.TheVariants as class
use Rattle.i7_sentences.proofs.Choosing.{ReadAs, read_as}
use Rattle.i7_sentences.proofs.Lists.{before_total}
use Rattle.i7_sentences.proofs.Sameness.{all_there, letters_same, never_both, reading_same, same_split}
use Rattle.i7_sentences.proofs.Valuing.{AreRows, ValueRead, lowest_read}

rows_are : AreRows value_forms
unfolding value_forms
rows_are = (
  record { class = class.Name; rest = _; is = refl },
  (
    record { class = class.Name; rest = _; is = refl },
    (
      record { class = class.Name; is_last = refl },
      (
        record { class = class.Name; rest = _; is = refl },
        (
          record { class = class.Name; rest = _; is = refl },
          tt,
        ),
      ),
    ),
  ),
)

-- ---- by the forms behind those of rules

abbrev pub ReadLater : List Words → List Token → Option Found → Type 0
ReadLater kinds tokens None = IsUnreadLater kinds tokens
ReadLater kinds tokens (Some found) = IsReadLater kinds tokens found.variant found.letters

first_later : (kinds : List Words) (tokens : List Token) (middle value higher : Option Found) → ReadAs middle_forms tokens middle → ValueRead value_forms kinds tokens value → ReadAs higher_forms tokens higher → ReadLater kinds tokens (or_later middle (or_later value higher))
first_later kinds tokens (Some found) value higher one two three = inl one
first_later kinds tokens None (Some found) higher one two three = inr (inl (one, record { form = two.form; is_variant = two.is_variant; reads = two.reads }))
first_later kinds tokens None None (Some found) one two three = inr (inr (one, two, three))
first_later kinds tokens None None None one two three = (one, two, three)

-- what is found is the reading, and where nothing is found no form fits
pub found_later : (kinds : List Words) (tokens : List Token) → ReadLater kinds tokens (read_later kinds tokens)
found_later kinds tokens =
    first_later kinds tokens (lowest_fit middle_forms tokens) (lowest_value value_forms kinds tokens) (lowest_fit higher_forms tokens)
    (read_as middle_forms tokens) (lowest_read value_forms kinds tokens rows_are) (read_as higher_forms tokens)

-- a value form that reads words is no form that doesn't fit
does_fit : (kinds : List Words) (tokens : List Token) (form : ValueForm) (letters : List (List Token)) → FitsValue kinds form tokens letters → IsNoValue kinds tokens form → ⊥
does_fit kinds tokens form letters fits none = none letters fits

form_same : (kinds : List Words) (tokens : List Token) (f g : ValueForm) (a b : List (List Token)) → ReadsValue value_forms kinds tokens f a → ReadsValue value_forms kinds tokens g b → f ≡ g
form_same kinds tokens f g a b one two =
    same_split (IsNoValue kinds tokens) one.lower f one.higher two.lower g two.higher (sym one.place ∙ two.place) one.lowest two.lowest
    (does_fit kinds tokens f a one.fits) (does_fit kinds tokens g b two.fits)

own_same : (kinds : List Words) (tokens : List Token) (f : ValueForm) (a b : List (List Token)) → ReadsValue value_forms kinds tokens f a → ReadsValue value_forms kinds tokens f b → a ≡ b
own_same kinds tokens f a b one two =
    letters_same f.variant.pieces tokens a b one.fits.fits two.fits.fits
    (before_total (map length a) (map length b) (two.shortest a one.fits) (one.shortest b two.fits))

value_same : (kinds : List Words) (tokens : List Token) (v w : Variant) (a b : List (List Token)) → IsValueReading kinds tokens v a → IsValueReading kinds tokens w b → (v ≡ w) × (a ≡ b)
value_same kinds tokens v w a b one two =
    let same : one.form ≡ two.form = form_same kinds tokens one.form two.form a b one.reads two.reads in (
      one.is_variant ∙ ap (λ (f : ValueForm). f.variant) same ∙ sym two.is_variant,
      own_same kinds tokens one.form a b one.reads (subst (λ (f : ValueForm). ReadsValue value_forms kinds tokens f b) (sym same) two.reads),
    )

no_value : (kinds : List Words) (tokens : List Token) (v : Variant) (letters : List (List Token)) → IsValueReading kinds tokens v letters → HasNoValue kinds tokens → ⊥
no_value kinds tokens v letters read none =
    all_there (IsNoValue kinds tokens) read.reads.lower read.form read.reads.higher (subst (All (IsNoValue kinds tokens)) read.reads.place none) letters read.reads.fits

later_same : (kinds : List Words) (tokens : List Token) (v w : Variant) (a b : List (List Token)) → IsReadLater kinds tokens v a → IsReadLater kinds tokens w b → (v ≡ w) × (a ≡ b)
later_same kinds tokens v w a b (inl one) (inl two) = reading_same middle_forms tokens v w a b one two
later_same kinds tokens v w a b (inl one) (inr (inl two)) = absurd (never_both middle_forms tokens v a one two.0)
later_same kinds tokens v w a b (inl one) (inr (inr two)) = absurd (never_both middle_forms tokens v a one two.0)
later_same kinds tokens v w a b (inr (inl one)) (inl two) = absurd (never_both middle_forms tokens w b two one.0)
later_same kinds tokens v w a b (inr (inl one)) (inr (inl two)) = value_same kinds tokens v w a b one.1 two.1
later_same kinds tokens v w a b (inr (inl one)) (inr (inr two)) = absurd (no_value kinds tokens v a one.1 two.1)
later_same kinds tokens v w a b (inr (inr one)) (inl two) = absurd (never_both middle_forms tokens w b two one.0)
later_same kinds tokens v w a b (inr (inr one)) (inr (inl two)) = absurd (no_value kinds tokens w b two.1 one.1)
later_same kinds tokens v w a b (inr (inr one)) (inr (inr two)) = reading_same higher_forms tokens v w a b one.2 two.2

later_or_not : (kinds : List Words) (tokens : List Token) (v : Variant) (letters : List (List Token)) → IsReadLater kinds tokens v letters → IsUnreadLater kinds tokens → ⊥
later_or_not kinds tokens v letters (inl read) unread = never_both middle_forms tokens v letters read unread.0
later_or_not kinds tokens v letters (inr (inl read)) unread = no_value kinds tokens v letters read.1 unread.1
later_or_not kinds tokens v letters (inr (inr read)) unread = never_both higher_forms tokens v letters read.2 unread.2

-- the reading is what is found
pub later_is_found : (kinds : List Words) (tokens : List Token) (variant : Variant) (letters : List (List Token)) → IsReadLater kinds tokens variant letters → read_later kinds tokens ≡ Some (record { variant = variant; letters = letters })
later_is_found kinds tokens variant letters reading =
    let Goal : Option Found → Type 0 = λ found. ReadLater kinds tokens found → found ≡ Some (record { variant = variant; letters = letters })
    in (elim (read_later kinds tokens) as Goal [
      | None ↦ λ unread. absurd (later_or_not kinds tokens variant letters reading unread)
      | Some found ↦ λ read.
          let same = later_same kinds tokens found.variant variant found.letters letters read reading in
          (λ i. Some (record { variant = same.0 i; letters = same.1 i }))
    ]) (found_later kinds tokens)

-- where none of these forms reads words, none is found
pub later_not_found : (kinds : List Words) (tokens : List Token) → IsUnreadLater kinds tokens → read_later kinds tokens ≡ None
later_not_found kinds tokens unread =
    let Goal : Option Found → Type 0 = λ found. ReadLater kinds tokens found → found ≡ None
    in (elim (read_later kinds tokens) as Goal [
      | None ↦ λ none. refl
      | Some found ↦ λ read. absurd (later_or_not kinds tokens found.variant found.letters read unread)
    ]) (found_later kinds tokens)

-- ---- by all forms

abbrev pub ReadWith : List Words → List Token → Option Found → Type 0
ReadWith kinds tokens None = IsUnreadWith kinds tokens
ReadWith kinds tokens (Some found) = IsReadWith kinds tokens found.variant found.letters

first_read : (kinds : List Words) (tokens : List Token) (lower later : Option Found) → ReadAs lower_forms tokens lower → ReadLater kinds tokens later → ReadWith kinds tokens (or_later lower later)
first_read kinds tokens (Some found) later one two = inl one
first_read kinds tokens None (Some found) one two = inr (one, two)
first_read kinds tokens None None one two = (one, two)

-- what is found is the reading, and where nothing is found no form fits
pub found_with : (kinds : List Words) (tokens : List Token) → ReadWith kinds tokens (read_with kinds tokens)
found_with kinds tokens = first_read kinds tokens (lowest_fit lower_forms tokens) (read_later kinds tokens) (read_as lower_forms tokens) (found_later kinds tokens)

-- no words have two readings
pub read_same : (kinds : List Words) (tokens : List Token) (v w : Variant) (a b : List (List Token)) → IsReadWith kinds tokens v a → IsReadWith kinds tokens w b → (v ≡ w) × (a ≡ b)
read_same kinds tokens v w a b (inl one) (inl two) = reading_same lower_forms tokens v w a b one two
read_same kinds tokens v w a b (inl one) (inr two) = absurd (never_both lower_forms tokens v a one two.0)
read_same kinds tokens v w a b (inr one) (inl two) = absurd (never_both lower_forms tokens w b two one.0)
read_same kinds tokens v w a b (inr one) (inr two) = later_same kinds tokens v w a b one.1 two.1

-- none are both read and unread
pub not_both : (kinds : List Words) (tokens : List Token) (v : Variant) (letters : List (List Token)) → IsReadWith kinds tokens v letters → IsUnreadWith kinds tokens → ⊥
not_both kinds tokens v letters (inl read) unread = never_both lower_forms tokens v letters read unread.0
not_both kinds tokens v letters (inr read) unread = later_or_not kinds tokens v letters read.1 unread.1

pub read_or_not : (kinds : List Words) (tokens : List Token) → ((v : Variant) × (letters : List (List Token)) × IsReadWith kinds tokens v letters) ⊎ IsUnreadWith kinds tokens
read_or_not kinds tokens =
    let Goal : Option Found → Type 0 = λ found. ReadWith kinds tokens found → ((v : Variant) × (letters : List (List Token)) × IsReadWith kinds tokens v letters) ⊎ IsUnreadWith kinds tokens
    in (elim (read_with kinds tokens) as Goal [
      | None ↦ λ unread. inr unread
      | Some found ↦ λ reading. inl (found.variant, found.letters, reading)
    ]) (found_with kinds tokens)
