-- The value forms: what the cuts of words find is what fits, with the shortest letters.
use Rattle.std.proofs.Common.{◌≡◌, ℕ, suc, ◌<◌, Bool, true, false, List, [], ◌∷◌, ◌++◌, length, take, drop, map, refl, ap, sym, ◌∙◌, subst, arith}
use Rattle.std.specs.Prelude.{◌-◌, Option, Some, None, option_map, if◌then◌else◌}
use Rattle.std.specs.List.{All}
use Rattle.std.proofs.lemmas.Bool.{false≢true, and_parts, and_from}
use Rattle.std.proofs.lemmas.List.Elements.{All-nil, All-cons}
use Rattle.std.proofs.lemmas.List.{length-append, take-append-drop}
use Rattle.std.proofs.lemmas.Option.{same_Some}
use Rattle.std.proofs.Math.Seq.{take-append_seam, drop-append_seam}
use Rattle.i7_lexer.specs.declared.token.Token.{Token}
use Rattle.i7_sentences.specs.Automata.{is_of}
use Rattle.i7_sentences.specs.Forms.{Fits, Variant, are_shorter}
use Rattle.i7_sentences.specs.Matching.{Found, first_fit, found_as, or_later}
use Rattle.i7_sentences.specs.Names.{Words}
use Rattle.i7_sentences.specs.ValueFits.{back_letters, cut_letters, fit_at, form_fit, front_letters, is_kind, lowest_value}
use Rattle.i7_sentences.specs.ValueForms.{FitsValue, IsNoValue, ReadsValue, ValueForm, first_letter, kind_letter, last_letter, names_one}
use Rattle.i7_sentences.specs.declared.class.Class.{Class}
use Rattle.i7_sentences.specs.declared.form.Piece.{Piece}
use Rattle.i7_sentences.specs.declared.form.Piece.TheVariants.{Word, Letter}
use Rattle.i7_sentences.specs.declared.value_form.KindLetter.{KindLetter}
use Rattle.i7_sentences.specs.declared.value_form.KindLetter.TheVariants.{First, FirstPlural, Last}
use Rattle.i7_sentences.proofs.Automata.{of_runs, runs_of}
use Rattle.i7_sentences.proofs.Fitting.{Fitted, fitted, later_first}
use Rattle.i7_sentences.proofs.Lists.{not_before_trans}
use Rattle.i7_sentences.proofs.BestFits.{IsBest, best_is, fits_off, fits_onto, last_is, none-found, onto_shortest, same_count}

-- ---- what is found at a cut fits

record FitsSo (names : List (List Token) → Bool) (pieces : List Piece) (tokens : List Token) (letters : List (List Token)) : Type 0 where
  fits : Fits pieces tokens letters
  names_it : names letters ≡ true

front_fits : (place : KindLetter) (kinds : List Words) (pieces : List Piece) (front back : List Token) (letters : List (List Token)) → front_letters place kinds pieces front back ≡ Some letters → FitsSo (λ ls. names_one place kinds (first_letter ls)) pieces (front ++ back) letters
front_fits place kinds [] front back letters is = absurd (none-found letters is)
front_fits place kinds (Word keyword ∷ pieces) front back letters is = absurd (none-found letters is)
front_fits place kinds (Letter class ∷ pieces) front back letters is =
    let After : Option (List (List Token)) → Type 0 = λ found. is_kind place kinds class front ≡ true → Fitted pieces back found → option_map (λ ls. front ∷ ls) found ≡ Some letters → FitsSo (λ ls. names_one place kinds (first_letter ls)) (Letter class ∷ pieces) (front ++ back) letters in
    let Goal : Bool → Type 0 = λ named. is_kind place kinds class front ≡ named → (if named then option_map (λ ls. front ∷ ls) (first_fit pieces back) else None) ≡ Some letters → FitsSo (λ ls. names_one place kinds (first_letter ls)) (Letter class ∷ pieces) (front ++ back) letters
    in (elim (is_kind place kinds class front) as Goal [
      | true ↦ λ named found_is. (elim (first_fit pieces back) as After [
        | None ↦ λ named' none that. absurd (none-found letters that)
        | Some others ↦ λ named' found that.
            let both = and_parts (names_one place kinds front) (is_of class front) named' in
            let same : front ∷ others ≡ letters = same_Some (front ∷ others) letters that in
            record {
              fits = record { words = front; rest = back; others = others; parts = refl; is_of_class = of_runs class front both.1; keeps = sym same; behind = found.fits };
              names_it = ap (λ (ls : List (List Token)). names_one place kinds (first_letter ls)) (sym same) ∙ both.0;
            }
      ]) named (fitted pieces back) found_is
      | false ↦ λ named none. absurd (none-found letters none)
    ]) refl is

back_fits : (place : KindLetter) (kinds : List Words) (pieces last : List Piece) (front back : List Token) (letters : List (List Token)) → back_letters place kinds pieces last front back ≡ Some letters → FitsSo (λ ls. names_one place kinds (last_letter ls)) (pieces ++ last) (front ++ back) letters
back_fits place kinds pieces [] front back letters is = absurd (none-found letters is)
back_fits place kinds pieces (Word keyword ∷ more) front back letters is = absurd (none-found letters is)
back_fits place kinds pieces (Letter class ∷ piece ∷ more) front back letters is = absurd (none-found letters is)
back_fits place kinds pieces (Letter class ∷ []) front back letters is =
    let After : Option (List (List Token)) → Type 0 = λ found. is_kind place kinds class back ≡ true → Fitted pieces front found → option_map (λ ls. ls ++ back ∷ []) found ≡ Some letters → FitsSo (λ ls. names_one place kinds (last_letter ls)) (pieces ++ Letter class ∷ []) (front ++ back) letters in
    let Goal : Bool → Type 0 = λ named. is_kind place kinds class back ≡ named → (if named then option_map (λ ls. ls ++ back ∷ []) (first_fit pieces front) else None) ≡ Some letters → FitsSo (λ ls. names_one place kinds (last_letter ls)) (pieces ++ Letter class ∷ []) (front ++ back) letters
    in (elim (is_kind place kinds class back) as Goal [
      | true ↦ λ named found_is. (elim (first_fit pieces front) as After [
        | None ↦ λ named' none that. absurd (none-found letters that)
        | Some others ↦ λ named' found that.
            let both = and_parts (names_one place kinds back) (is_of class back) named' in
            let same : others ++ back ∷ [] ≡ letters = same_Some (others ++ back ∷ []) letters that in
            record {
              fits = subst (Fits (pieces ++ Letter class ∷ []) (front ++ back)) same (fits_onto pieces class front back others found.fits (of_runs class back both.1));
              names_it = ap (λ (ls : List (List Token)). names_one place kinds (last_letter ls)) (sym same) ∙ ap (names_one place kinds) (last_is others back) ∙ both.0;
            }
      ]) named (fitted pieces front) found_is
      | false ↦ λ named none. absurd (none-found letters none)
    ]) refl is

-- a cut at which something is found, for this form
cut_fits : (place : KindLetter) (kinds : List Words) (pieces : List Piece) (front back : List Token) (letters : List (List Token)) → cut_letters place kinds pieces front back ≡ Some letters → FitsSo (λ ls. names_one place kinds (kind_letter place ls)) pieces (front ++ back) letters
cut_fits First kinds pieces front back letters is = front_fits First kinds pieces front back letters is
cut_fits FirstPlural kinds pieces front back letters is = front_fits FirstPlural kinds pieces front back letters is
cut_fits Last kinds pieces front back letters is =
    let so = back_fits Last kinds (take (length pieces - 1) pieces) (drop (length pieces - 1) pieces) front back letters is in
    record {
      fits = subst (λ (ps : List Piece). Fits ps (front ++ back) letters) (take-append-drop (length pieces - 1) pieces) so.fits;
      names_it = so.names_it;
    }

-- what is found as a variant
record IsAs (variant : Variant) (letters : Option (List (List Token))) (found : Found) : Type 0 where
  is_variant : found.variant ≡ variant
  is_letters : letters ≡ Some found.letters

found_is : (variant : Variant) (letters : Option (List (List Token))) (found : Found) → found_as variant letters ≡ Some found → IsAs variant letters found
found_is variant None found is = absurd (none-found found is)
found_is variant (Some letters) found is =
    let same = same_Some (record { variant = variant; letters = letters }) found is in
    record { is_variant = ap (λ (f : Found). f.variant) (sym same); is_letters = ap (λ (f : Found). Some f.letters) same }

at_fits : (kinds : List Words) (form : ValueForm) (tokens : List Token) (n : ℕ) (found : Found) → fit_at kinds form tokens n ≡ Some found → FitsValue kinds form tokens found.letters
at_fits kinds form tokens n found is =
    let as_it = found_is form.variant (cut_letters form.place kinds form.variant.pieces (take n tokens) (drop n tokens)) found is in
    let so = cut_fits form.place kinds form.variant.pieces (take n tokens) (drop n tokens) found.letters as_it.is_letters in
    record {
      fits = subst (λ (ts : List Token). Fits form.variant.pieces ts found.letters) (take-append-drop n tokens) so.fits;
      names = so.names_it;
    }

-- a form that doesn't fit is seen to fit at no cut
unfit_none : (kinds : List Words) (form : ValueForm) (tokens : List Token) → IsNoValue kinds tokens form → form_fit kinds form tokens ≡ None
unfit_none kinds form tokens unfit =
    let at : ℕ → Option Found = fit_at kinds form tokens in
    let Goal : Option Found → Type 0 = λ found. IsBest at (suc (length tokens)) found → found ≡ None
    in (elim (form_fit kinds form tokens) as Goal [
      | None ↦ λ none. refl
      | Some best ↦ λ found. absurd (unfit best.letters (at_fits kinds form tokens found.n best found.is))
    ]) (best_is at (suc (length tokens)))

pub passed_over : (kinds : List Words) (form : ValueForm) (tokens : List Token) → first_fit form.variant.pieces tokens ≡ None → form_fit kinds form tokens ≡ None
passed_over kinds form tokens none =
    unfit_none kinds form tokens (λ letters fits. subst (Fitted form.variant.pieces tokens) none (fitted form.variant.pieces tokens) letters fits.fits)

-- where no kinds of value are declared, no value form fits
names_none : (place : KindLetter) (words : List Token) → names_one place [] words ≡ true → ⊥
names_none First words is = false≢true is
names_none FirstPlural words is = false≢true is
names_none Last words is = false≢true is

no_kinds_none : (forms : List ValueForm) (tokens : List Token) → lowest_value forms [] tokens ≡ None
no_kinds_none [] tokens = refl
no_kinds_none (form ∷ forms) tokens =
    rw (unfit_none [] form tokens (λ letters fits. names_none form.place (kind_letter form.place letters) fits.names)) (no_kinds_none forms tokens)

pub no_kinds : (forms : List ValueForm) (kinds : List Words) (tokens : List Token) → length kinds ≡ 0 → lowest_value forms kinds tokens ≡ None
no_kinds forms [] tokens none = no_kinds_none forms tokens
no_kinds forms (kind ∷ kinds) tokens none = absurd (omega (arith, none))

-- ---- what fits is found at a cut, or what is no longer

-- what is found for a cut of the words
record IsFoundAt (found_at : List Token → List Token → Option (List (List Token))) (tokens : List Token) (letters : List (List Token)) : Type 0 where
  front : List Token
  back : List Token
  found : List (List Token)
  parts : tokens ≡ front ++ back
  is : found_at front back ≡ Some found
  no_shorter : are_shorter letters found ≡ false

fits_front : (place : KindLetter) (kinds : List Words) (class : Class) (pieces : List Piece) (tokens : List Token) (letters : List (List Token)) → Fits (Letter class ∷ pieces) tokens letters → names_one place kinds (first_letter letters) ≡ true → IsFoundAt (front_letters place kinds (Letter class ∷ pieces)) tokens letters
fits_front place kinds class pieces tokens letters fits names =
    let named : is_kind place kinds class fits.words ≡ true = and_from (names_one place kinds fits.words) (is_of class fits.words)
    (ap (λ (ls : List (List Token)). names_one place kinds (first_letter ls)) (sym fits.keeps) ∙ names) (runs_of class fits.words fits.is_of_class) in
    let Goal : Option (List (List Token)) → Type 0 = λ found. first_fit pieces fits.rest ≡ found → Fitted pieces fits.rest found → IsFoundAt (front_letters place kinds (Letter class ∷ pieces)) tokens letters
    in (elim (first_fit pieces fits.rest) as Goal [
      | None ↦ λ is none. absurd (none fits.others fits.behind)
      | Some others ↦ λ is best. record {
        front = fits.words;
        back = fits.rest;
        found = fits.words ∷ others;
        parts = fits.parts;
        is = rw (named, is) refl;
        no_shorter = ap (λ (ls : List (List Token)). are_shorter ls (fits.words ∷ others)) fits.keeps
            ∙ later_first (length fits.words) (length fits.words) (map length others) (map length fits.others) (omega arith) (λ same. best.shortest fits.others fits.behind);
      }
    ]) refl (fitted pieces fits.rest)

fits_back : (place : KindLetter) (kinds : List Words) (class : Class) (pieces : List Piece) (tokens : List Token) (letters : List (List Token)) → Fits (pieces ++ Letter class ∷ []) tokens letters → names_one place kinds (last_letter letters) ≡ true → IsFoundAt (back_letters place kinds pieces (Letter class ∷ [])) tokens letters
fits_back place kinds class pieces tokens letters fits names =
    let so = fits_off pieces class tokens letters fits in
    let named : is_kind place kinds class so.back ≡ true = and_from (names_one place kinds so.back) (is_of class so.back)
    (ap (names_one place kinds) (sym (last_is so.others so.back)) ∙ ap (λ (ls : List (List Token)). names_one place kinds (last_letter ls)) (sym so.keeps) ∙ names) (runs_of class so.back so.is_of_class) in
    let Goal : Option (List (List Token)) → Type 0 = λ found. first_fit pieces so.front ≡ found → Fitted pieces so.front found → IsFoundAt (back_letters place kinds pieces (Letter class ∷ [])) tokens letters
    in (elim (first_fit pieces so.front) as Goal [
      | None ↦ λ is none. absurd (none so.others so.fits)
      | Some others ↦ λ is best. record {
        front = so.front;
        back = so.back;
        found = others ++ so.back ∷ [];
        parts = so.parts;
        is = rw (named, is) refl;
        no_shorter = ap (λ (ls : List (List Token)). are_shorter ls (others ++ so.back ∷ [])) so.keeps
            ∙ onto_shortest so.others others so.back (same_count pieces so.front so.front so.others others so.fits best.fits) (best.shortest so.others so.fits);
      }
    ]) refl (fitted pieces so.front)

-- the letter for a form's kind is its first piece, or its last
pub record HasFirst (pieces : List Piece) : Type 0 where
  pub class : Class
  pub rest : List Piece
  pub is : pieces ≡ Letter class ∷ rest

pub record HasLast (pieces : List Piece) : Type 0 where
  pub class : Class
  pub is_last : drop (length pieces - 1) pieces ≡ Letter class ∷ []

abbrev pub IsRow : KindLetter → List Piece → Type 0
IsRow First pieces = HasFirst pieces
IsRow FirstPlural pieces = HasFirst pieces
IsRow Last pieces = HasLast pieces

fits_first : (place : KindLetter) (kinds : List Words) (pieces : List Piece) (tokens : List Token) (letters : List (List Token)) → HasFirst pieces → Fits pieces tokens letters → names_one place kinds (first_letter letters) ≡ true → IsFoundAt (front_letters place kinds pieces) tokens letters
fits_first place kinds pieces tokens letters row fits names =
    subst (λ (ps : List Piece). IsFoundAt (front_letters place kinds ps) tokens letters) (sym row.is)
    (fits_front place kinds row.class row.rest tokens letters (subst (λ (ps : List Piece). Fits ps tokens letters) row.is fits) names)

fits_last : (kinds : List Words) (pieces : List Piece) (tokens : List Token) (letters : List (List Token)) → HasLast pieces → Fits pieces tokens letters → names_one Last kinds (last_letter letters) ≡ true → IsFoundAt (back_letters Last kinds (take (length pieces - 1) pieces) (drop (length pieces - 1) pieces)) tokens letters
fits_last kinds pieces tokens letters row fits names =
    let whole : take (length pieces - 1) pieces ++ Letter row.class ∷ [] ≡ pieces = ap (λ (ps : List Piece). take (length pieces - 1) pieces ++ ps) (sym row.is_last) ∙ take-append-drop (length pieces - 1) pieces in
    subst (λ (ps : List Piece). IsFoundAt (back_letters Last kinds (take (length pieces - 1) pieces) ps) tokens letters) (sym row.is_last)
    (fits_back Last kinds row.class (take (length pieces - 1) pieces) tokens letters (subst (λ (ps : List Piece). Fits ps tokens letters) (sym whole) fits) names)

fits_cut : (place : KindLetter) (kinds : List Words) (pieces : List Piece) (tokens : List Token) (letters : List (List Token)) → IsRow place pieces → Fits pieces tokens letters → names_one place kinds (kind_letter place letters) ≡ true → IsFoundAt (cut_letters place kinds pieces) tokens letters
fits_cut First kinds pieces tokens letters row fits names = fits_first First kinds pieces tokens letters row fits names
fits_cut FirstPlural kinds pieces tokens letters row fits names = fits_first FirstPlural kinds pieces tokens letters row fits names
fits_cut Last kinds pieces tokens letters row fits names = fits_last kinds pieces tokens letters row fits names

record IsFoundBelow (kinds : List Words) (form : ValueForm) (tokens : List Token) (letters : List (List Token)) : Type 0 where
  n : ℕ
  low : n < suc (length tokens)
  found : List (List Token)
  is : fit_at kinds form tokens n ≡ Some (record { variant = form.variant; letters = found })
  no_shorter : are_shorter letters found ≡ false

fits_at : (kinds : List Words) (form : ValueForm) (tokens : List Token) (letters : List (List Token)) → IsRow form.place form.variant.pieces → FitsValue kinds form tokens letters → IsFoundBelow kinds form tokens letters
fits_at kinds form tokens letters row fits =
    let cut = fits_cut form.place kinds form.variant.pieces tokens letters row fits.fits fits.names in
    let fronts : take (length cut.front) tokens ≡ cut.front = ap (take (length cut.front)) cut.parts ∙ take-append_seam cut.front cut.back in
    let backs : drop (length cut.front) tokens ≡ cut.back = ap (drop (length cut.front)) cut.parts ∙ drop-append_seam cut.front cut.back in
    let len : length tokens ≡ length (cut.front ++ cut.back) = ap length cut.parts in
    record {
      n = length cut.front;
      low = omega (arith, len, length-append cut.front cut.back);
      found = cut.found;
      is = ap (found_as form.variant)
          (ap (λ (ts : List Token). cut_letters form.place kinds form.variant.pieces ts (drop (length cut.front) tokens)) fronts
          ∙ ap (cut_letters form.place kinds form.variant.pieces cut.front) backs
          ∙ cut.is);
      no_shorter = cut.no_shorter;
    }

-- ---- what is found is the reading

record IsFormFit (kinds : List Words) (form : ValueForm) (tokens : List Token) (found : Found) : Type 0 where
  is_variant : found.variant ≡ form.variant
  fits : FitsValue kinds form tokens found.letters
  shortest : (others : List (List Token)) → FitsValue kinds form tokens others → are_shorter others found.letters ≡ false

abbrev FormFitted : List Words → ValueForm → List Token → Option Found → Type 0
FormFitted kinds form tokens None = IsNoValue kinds tokens form
FormFitted kinds form tokens (Some found) = IsFormFit kinds form tokens found

form_fitted : (kinds : List Words) (form : ValueForm) (tokens : List Token) → IsRow form.place form.variant.pieces → FormFitted kinds form tokens (form_fit kinds form tokens)
form_fitted kinds form tokens row =
    let at : ℕ → Option Found = fit_at kinds form tokens in
    let Goal : Option Found → Type 0 = λ found. IsBest at (suc (length tokens)) found → FormFitted kinds form tokens found
    in (elim (form_fit kinds form tokens) as Goal [
      | None ↦ λ none letters fits.
          let below = fits_at kinds form tokens letters row fits in
          none-found (record { variant = form.variant; letters = below.found }) (sym (none below.n below.low) ∙ below.is)
      | Some best ↦ λ is_best. record {
        is_variant = (found_is form.variant (cut_letters form.place kinds form.variant.pieces (take is_best.n tokens) (drop is_best.n tokens)) best is_best.is).is_variant;
        fits = at_fits kinds form tokens is_best.n best is_best.is;
        shortest = λ others fits.
            let below = fits_at kinds form tokens others row fits in
            not_before_trans (map length best.letters) (map length below.found) (map length others)
            (is_best.least below.n below.low (record { variant = form.variant; letters = below.found }) below.is) below.no_shorter;
      }
    ]) (best_is at (suc (length tokens)))

-- a form that reads words, as found
pub record IsValueFound (forms : List ValueForm) (kinds : List Words) (tokens : List Token) (found : Found) : Type 0 where
  pub form : ValueForm
  pub is_variant : found.variant ≡ form.variant
  pub reads : ReadsValue forms kinds tokens form found.letters

abbrev pub ValueRead : List ValueForm → List Words → List Token → Option Found → Type 0
ValueRead forms kinds tokens None = All (IsNoValue kinds tokens) forms
ValueRead forms kinds tokens (Some found) = IsValueFound forms kinds tokens found

lowest_more : (form : ValueForm) (forms : List ValueForm) (kinds : List Words) (tokens : List Token) (first later : Option Found) → FormFitted kinds form tokens first → ValueRead forms kinds tokens later → ValueRead (form ∷ forms) kinds tokens (or_later first later)
lowest_more form forms kinds tokens None None unfit unread = All-cons (IsNoValue kinds tokens) form forms unfit unread
lowest_more form forms kinds tokens None (Some found) unfit read = record {
  form = read.form;
  is_variant = read.is_variant;
  reads = record {
    lower = form ∷ read.reads.lower;
    higher = read.reads.higher;
    place = ap (λ (fs : List ValueForm). form ∷ fs) read.reads.place;
    lowest = All-cons (IsNoValue kinds tokens) form read.reads.lower unfit read.reads.lowest;
    fits = read.reads.fits;
    shortest = read.reads.shortest;
  };
}
lowest_more form forms kinds tokens (Some found) later fit read = record {
  form = form;
  is_variant = fit.is_variant;
  reads = record {
    lower = [];
    higher = forms;
    place = refl;
    lowest = All-nil (IsNoValue kinds tokens);
    fits = fit.fits;
    shortest = fit.shortest;
  };
}

abbrev pub AreRows : List ValueForm → Type 0
AreRows [] = Unit {0}
AreRows (form ∷ forms) = IsRow form.place form.variant.pieces × AreRows forms

pub lowest_read : (forms : List ValueForm) (kinds : List Words) (tokens : List Token) → AreRows forms → ValueRead forms kinds tokens (lowest_value forms kinds tokens)
lowest_read [] kinds tokens rows = All-nil (IsNoValue kinds tokens)
lowest_read (form ∷ forms) kinds tokens rows =
    lowest_more form forms kinds tokens (form_fit kinds form tokens) (lowest_value forms kinds tokens) (form_fitted kinds form tokens rows.0) (lowest_read forms kinds tokens rows.1)
