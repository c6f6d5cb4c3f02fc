-- Fitting the value forms by each cut of the words, at which the name of a kind ends or begins.
use Rattle.std.specs.Prelude.{ℕ, zero, suc, ◌-◌, Bool, ◌&&◌, List, [], ◌∷◌, ◌++◌, length, take, drop, Option, None, option_map, if◌then◌else◌}
use Rattle.i7_lexer.specs.declared.token.Token.{Token}
use Rattle.i7_sentences.specs.Automata.{is_of}
use Rattle.i7_sentences.specs.Forms.{higher_forms, lower_forms, middle_forms}
use Rattle.i7_sentences.specs.Matching.{Found, first_fit, found_as, lowest_fit, or_later, preferred}
use Rattle.i7_sentences.specs.Names.{Words}
use Rattle.i7_sentences.specs.ValueForms.{ValueForm, names_one, value_forms}
use Rattle.i7_sentences.specs.declared.class.Class.{Class}
use Rattle.i7_sentences.specs.declared.form.Piece.{Piece}
use Rattle.i7_sentences.specs.declared.form.Piece.TheVariants.{Word, Letter}
use Rattle.i7_sentences.specs.declared.value_form.KindLetter.{KindLetter}
use Rattle.i7_sentences.specs.declared.value_form.KindLetter.TheVariants.{First, FirstPlural, Last}

-- words that a letter of the class may stand for and that name one of the kinds
abbrev pub is_kind : KindLetter → List Words → Class → List Token → Bool
is_kind place kinds class words = names_one place kinds words && is_of class words

-- the kind's name in front, as the first piece, and the other pieces behind it
abbrev pub front_letters : KindLetter → List Words → List Piece → List Token → List Token → Option (List (List Token))
front_letters place kinds [] front back = None
front_letters place kinds (Word keyword ∷ pieces) front back = None
front_letters place kinds (Letter class ∷ pieces) front back = if is_kind place kinds class front then option_map (λ letters. front ∷ letters) (first_fit pieces back) else None

-- the kind's name at the end, as this last piece, and the other pieces in front of it
abbrev pub back_letters : KindLetter → List Words → List Piece → List Piece → List Token → List Token → Option (List (List Token))
back_letters place kinds pieces [] front back = None
back_letters place kinds pieces (Word keyword ∷ more) front back = None
back_letters place kinds pieces (Letter class ∷ []) front back = if is_kind place kinds class back then option_map (λ letters. letters ++ back ∷ []) (first_fit pieces front) else None
back_letters place kinds pieces (Letter class ∷ piece ∷ more) front back = None

-- the words for the form's letters where the words are cut into these two parts
abbrev pub cut_letters : KindLetter → List Words → List Piece → List Token → List Token → Option (List (List Token))
cut_letters First kinds pieces front back = front_letters First kinds pieces front back
cut_letters FirstPlural kinds pieces front back = front_letters FirstPlural kinds pieces front back
cut_letters Last kinds pieces front back = back_letters Last kinds (take (length pieces - 1) pieces) (drop (length pieces - 1) pieces) front back

-- the fit where so many words stand in front of the cut
abbrev pub fit_at : List Words → ValueForm → List Token → ℕ → Option Found
fit_at kinds form tokens n = found_as form.variant (cut_letters form.place kinds form.variant.pieces (take n tokens) (drop n tokens))

-- the one of so many first that has the shortest letters
abbrev pub best_below : (ℕ → Option Found) → ℕ → Option Found
best_below at zero = None
best_below at (suc n) = preferred (best_below at n) (at n)

-- the fit of a value form with the shortest letters
abbrev pub form_fit : List Words → ValueForm → List Token → Option Found
form_fit kinds form tokens = best_below (fit_at kinds form tokens) (suc (length tokens))

-- the fit of the lowest of these forms that fits
abbrev pub lowest_value : List ValueForm → List Words → List Token → Option Found
lowest_value [] kinds tokens = None
lowest_value (form ∷ forms) kinds tokens = or_later (form_fit kinds form tokens) (lowest_value forms kinds tokens)

-- how a sentence is read by the forms behind the lower ones, where these kinds of value are declared
abbrev pub read_later : List Words → List Token → Option Found
read_later kinds tokens = or_later (lowest_fit middle_forms tokens) (or_later (lowest_value value_forms kinds tokens) (lowest_fit higher_forms tokens))

-- how it is read by all forms
abbrev pub read_with : List Words → List Token → Option Found
read_with kinds tokens = or_later (lowest_fit lower_forms tokens) (read_later kinds tokens)
