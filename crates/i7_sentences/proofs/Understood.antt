-- How a sentence is understood is what is found, and there is no other way.
use Rattle.std.proofs.Common.{◌≡◌, inl, inr, ℕ, Bool, true, false, List, refl, ap, sym, ◌∙◌, subst}
use Rattle.std.specs.Prelude.{◌&&◌, Option, Some, None, if◌then◌else◌}
use Rattle.i7_lexer.specs.declared.token.Token.{Token}
use Rattle.i7_sentences.specs.Cuts.{line_in}
use Rattle.i7_sentences.specs.Forms.{Variant}
use Rattle.i7_sentences.specs.Matching.{Found, or_later}
use Rattle.i7_sentences.specs.Names.{Words}
use Rattle.i7_sentences.specs.Read.{IsHeardAs, IsHeardOr}
use Rattle.i7_sentences.specs.Stretches.{bad_literal_in, whole}
use Rattle.i7_sentences.specs.Understood.{IsUnderstoodBy, is_passed_on, is_shaped, is_unread, passed_on, understood_by, understood_from}
use Rattle.i7_sentences.specs.ValueFits.{read_later, read_with}
use Rattle.i7_sentences.specs.ValueForms.{IsReadWith, IsUnreadWith}
use Rattle.i7_sentences.specs.declared.heard.Heard.{Heard}
use Rattle.i7_sentences.specs.declared.heard.Heard.TheVariants as heard
use Rattle.i7_sentences.specs.declared.heard.HeardPart.{HeardPart}
use Rattle.i7_sentences.specs.declared.sentence.Assertion.{Assertion}
use Rattle.i7_sentences.proofs.Lowest.{lower_none}
use Rattle.i7_sentences.proofs.ReadingWith.{ReadLater, ReadWith, found_later, found_with, later_is_found, later_not_found, not_both, read_same}
use Rattle.i7_sentences.proofs.Automata.{and_false}

abbrev as_found : Variant → List (List Token) → Found
as_found variant letters = record { variant = variant; letters = letters }

-- the reading is what is found
with_is_found : (kinds : List Words) (tokens : List Token) (variant : Variant) (letters : List (List Token)) → IsReadWith kinds tokens variant letters → read_with kinds tokens ≡ Some (as_found variant letters)
with_is_found kinds tokens variant letters reading =
    let Goal : Option Found → Type 0 = λ found. ReadWith kinds tokens found → found ≡ Some (as_found variant letters)
    in (elim (read_with kinds tokens) as Goal [
      | None ↦ λ unread. absurd (not_both kinds tokens variant letters reading unread)
      | Some found ↦ λ read.
          let same = read_same kinds tokens found.variant variant found.letters letters read reading in
          (λ i. Some (record { variant = same.0 i; letters = same.1 i }))
    ]) (found_with kinds tokens)

-- where no form reads words, none is found
with_not_found : (kinds : List Words) (tokens : List Token) → IsUnreadWith kinds tokens → read_with kinds tokens ≡ None
with_not_found kinds tokens unread =
    let Goal : Option Found → Type 0 = λ found. ReadWith kinds tokens found → found ≡ None
    in (elim (read_with kinds tokens) as Goal [
      | None ↦ λ none. refl
      | Some found ↦ λ read. absurd (not_both kinds tokens found.variant found.letters read unread)
    ]) (found_with kinds tokens)

-- ---- what is found is how a sentence is understood

abbrev pub Understood : List Words → List Token → Option Found → Type 0
Understood kinds tokens None = IsUnreadWith kinds tokens
Understood kinds tokens (Some found) = IsUnderstoodBy kinds tokens found.variant found.letters

taken_or_left : (kinds : List Words) (tokens : List Token) (rule : Found) (later : Option Found) → IsReadWith kinds tokens rule.variant rule.letters → is_passed_on kinds tokens rule.variant rule.letters ≡ true → ReadLater kinds tokens later
    → Understood kinds tokens (or_later later (Some rule))
taken_or_left kinds tokens rule (Some found) read passed later = inr (inl ((rule.variant, rule.letters, (read, passed)), later))
taken_or_left kinds tokens rule None read passed later = inr (inr ((read, passed), later))

kept_or_passed : (kinds : List Words) (tokens : List Token) (found : Found) → IsReadWith kinds tokens found.variant found.letters → Understood kinds tokens (passed_on kinds tokens found)
unfolding passed_on
kept_or_passed kinds tokens found read =
    let Goal : Bool → Type 0 = λ passed. is_passed_on kinds tokens found.variant found.letters ≡ passed → Understood kinds tokens (if passed then or_later (read_later kinds tokens) (Some found) else Some found)
    in elim (is_passed_on kinds tokens found.variant found.letters) as Goal [
      | true ↦ λ passed. taken_or_left kinds tokens found (read_later kinds tokens) read passed (found_later kinds tokens)
      | false ↦ λ kept. inl (read, kept)
    ] refl

understood_so : (kinds : List Words) (tokens : List Token) (found : Option Found) → ReadWith kinds tokens found → Understood kinds tokens (understood_from kinds tokens found)
understood_so kinds tokens None unread = unread
understood_so kinds tokens (Some found) read = kept_or_passed kinds tokens found read

pub found_understood : (kinds : List Words) (tokens : List Token) → Understood kinds tokens (understood_by kinds tokens)
unfolding understood_by
found_understood kinds tokens = understood_so kinds tokens (read_with kinds tokens) (found_with kinds tokens)

-- ---- and nothing else is found

pub understood_is_found : (kinds : List Words) (tokens : List Token) (variant : Variant) (letters : List (List Token)) → IsUnderstoodBy kinds tokens variant letters → understood_by kinds tokens ≡ Some (as_found variant letters)
unfolding understood_by passed_on
understood_is_found kinds tokens variant letters (inl kept) = ap (understood_from kinds tokens) (with_is_found kinds tokens variant letters kept.0) ∙ rw (kept.1) refl
understood_is_found kinds tokens variant letters (inr (inl taken)) =
    ap (understood_from kinds tokens) (with_is_found kinds tokens taken.0.0 taken.0.1 taken.0.2.0) ∙ rw (taken.0.2.1, later_is_found kinds tokens variant letters taken.1) refl
understood_is_found kinds tokens variant letters (inr (inr left)) =
    ap (understood_from kinds tokens) (with_is_found kinds tokens variant letters left.0.0) ∙ rw (left.0.1, later_not_found kinds tokens left.1) refl

pub unread_not_found : (kinds : List Words) (tokens : List Token) → IsUnreadWith kinds tokens → understood_by kinds tokens ≡ None
unfolding understood_by
unread_not_found kinds tokens unread = ap (understood_from kinds tokens) (with_not_found kinds tokens unread)

same_found : (found : Option Found) (v w : Variant) (a b : List (List Token)) → found ≡ Some (as_found v a) → found ≡ Some (as_found w b) → (v ≡ w) × (a ≡ b)
same_found found v w a b one two = let same : as_found v a ≡ as_found w b = cc in (ap (λ (f : Found). f.variant) same, ap (λ (f : Found). f.letters) same)

-- no sentence is understood in two ways
pub understood_same : (kinds : List Words) (tokens : List Token) (v w : Variant) (a b : List (List Token)) → IsUnderstoodBy kinds tokens v a → IsUnderstoodBy kinds tokens w b → (v ≡ w) × (a ≡ b)
understood_same kinds tokens v w a b one two = same_found (understood_by kinds tokens) v w a b (understood_is_found kinds tokens v a one) (understood_is_found kinds tokens w b two)

-- and none is understood and read by no form
pub understood_or_not : (kinds : List Words) (tokens : List Token) (v : Variant) (letters : List (List Token)) → IsUnderstoodBy kinds tokens v letters → IsUnreadWith kinds tokens → ⊥
understood_or_not kinds tokens v letters one unread = let both : Some (as_found v letters) ≡ None = sym (understood_is_found kinds tokens v letters one) ∙ unread_not_found kinds tokens unread in cc

-- ---- what is passed on, told by what is heard of it

passed_so : (kinds : List Words) (tokens : List Token) (found : Found) (part : HeardPart) → IsHeardAs kinds tokens (Some found) part → is_passed_on kinds tokens found.variant found.letters ≡ (is_shaped found.variant.form && is_unread part.heard)
unfolding IsHeardAs
passed_so kinds tokens found part told = ap (λ (h : Heard). is_shaped found.variant.form && is_unread h) (sym told.0)

stays : (kinds : List Words) (tokens : List Token) (found : Found) (part : HeardPart) → IsHeardAs kinds tokens (Some found) part → (is_shaped found.variant.form && is_unread part.heard) ≡ false → IsHeardAs kinds tokens (passed_on kinds tokens found) part
unfolding passed_on
stays kinds tokens found part told is = rw (passed_so kinds tokens found part told ∙ is) told

pub said_stays : (kinds : List Words) (tokens : List Token) (found : Found) (said : Assertion) (literal : Option ℕ) → IsHeardAs kinds tokens (Some found) (record { heard = heard.Says said; bad_literal = literal })
    → IsHeardAs kinds tokens (passed_on kinds tokens found) (record { heard = heard.Says said; bad_literal = literal })
said_stays kinds tokens found said literal told = stays kinds tokens found (record { heard = heard.Says said; bad_literal = literal }) told (and_false (is_shaped found.variant.form))

pub reserved_stays : (kinds : List Words) (tokens : List Token) (found : Found) (line : ℕ) (literal : Option ℕ) → IsHeardAs kinds tokens (Some found) (record { heard = heard.Reserved line; bad_literal = literal })
    → IsHeardAs kinds tokens (passed_on kinds tokens found) (record { heard = heard.Reserved line; bad_literal = literal })
reserved_stays kinds tokens found line literal told = stays kinds tokens found (record { heard = heard.Reserved line; bad_literal = literal }) told (and_false (is_shaped found.variant.form))

pub other_stays : (kinds : List Words) (tokens : List Token) (found : Found) (part : HeardPart) → IsHeardAs kinds tokens (Some found) part → is_shaped found.variant.form ≡ false → IsHeardAs kinds tokens (passed_on kinds tokens found) part
other_stays kinds tokens found part told is = stays kinds tokens found part told (rw is refl)

or_else : (kinds : List Words) (tokens : List Token) (found : Found) (later : Option Found) (first part : HeardPart) → IsHeardAs kinds tokens (Some found) first → IsHeardOr kinds tokens later first part → IsHeardAs kinds tokens (or_later later (Some found)) part
unfolding IsHeardOr
or_else kinds tokens found None first part told same = subst (IsHeardAs kinds tokens (Some found)) (sym same) told
or_else kinds tokens found (Some later) first part told read = read

pub lost_goes_on : (kinds : List Words) (tokens : List Token) (found : Found) (line : ℕ) (literal : Option ℕ) (part : HeardPart) → IsHeardAs kinds tokens (Some found) (record { heard = heard.Unread line; bad_literal = literal }) → is_shaped found.variant.form ≡ true
    → IsHeardOr kinds tokens (read_later kinds tokens) (record { heard = heard.Unread line; bad_literal = literal }) part → IsHeardAs kinds tokens (passed_on kinds tokens found) part
unfolding passed_on
lost_goes_on kinds tokens found line literal part told is later =
    let unread : HeardPart = record { heard = heard.Unread line; bad_literal = literal } in
    let passed : is_passed_on kinds tokens found.variant found.letters ≡ true = passed_so kinds tokens found unread told ∙ rw is refl in
    rw passed (or_else kinds tokens found (read_later kinds tokens) unread part told later)

pub ruleset passing = (said_stays, reserved_stays, other_stays, lost_goes_on)

pub unread_so : (kinds : List Words) (tokens : List Token) (part : HeardPart) → part.heard ≡ heard.Unread (line_in tokens) → part.bad_literal ≡ bad_literal_in (whole tokens) → IsHeardAs kinds tokens None part
unfolding IsHeardAs
unread_so kinds tokens part unread literals = (unread, literals ∙ sym (lower_none (bad_literal_in (whole tokens))))

pub ruleset unheard = (unread_so)
