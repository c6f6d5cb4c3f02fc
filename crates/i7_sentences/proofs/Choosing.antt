-- The best fit of the lowest form that fits is the reading, and there is no other.
use Rattle.std.proofs.Common.{◌≡◌, ℕ, Bool, true, false, List, [], ◌∷◌, length, map, refl, ap}
use Rattle.std.specs.Prelude.{Option, Some, None, if◌then◌else◌}
use Rattle.std.specs.List.{All}
use Rattle.std.proofs.lemmas.List.Elements.{All-append, All-nil, All-cons, All-head, All-tail}
use Rattle.i7_lexer.specs.declared.token.Token.{Token}
use Rattle.i7_sentences.specs.Forms.{Variant, are_shorter, IsUnfit, IsLonger, IsNoShorter, IsShortestFit, AreUnfit, IsReading, IsUnread}
use Rattle.i7_sentences.specs.Matching.{Found, found_as, first_fit, preferred, best_fit, or_later, lowest_fit}
use Rattle.i7_sentences.proofs.Lists.{before_trans, before_once, not_before_trans}
use Rattle.i7_sentences.proofs.Fitting.{Fitted, Shortest, fitted}

pub all_map : {X : Type 0} (P Q : X → Type 0) (xs : List X) → ((x : X) → P x → Q x) → All P xs → All Q xs
all_map P Q [] turn all = All-nil Q
all_map P Q (x ∷ xs) turn all = All-cons Q x xs (turn x (All-head P x xs all)) (all_map P Q xs turn (All-tail P x xs all))

abbrev pub BestOf : List Variant → List Token → Option Found → Type 0
BestOf variants tokens None = AreUnfit tokens variants
BestOf variants tokens (Some found) = IsShortestFit variants tokens found.variant found.letters

-- each variant's fit of a form is no shorter than the best, so than what is no longer than the best
later_longer : (variants : List Variant) (tokens : List Token) (variant : Variant) (letters best : List (List Token)) → are_shorter best letters ≡ false → IsShortestFit variants tokens variant best → All (IsNoShorter tokens letters) variants
later_longer variants tokens variant letters best low fit =
    let lens : List (List Token) → List ℕ = map length in
    let far : (v : Variant) → IsNoShorter tokens best v → IsNoShorter tokens letters v = (λ v none others fits. not_before_trans (lens letters) (lens best) (lens others) low (none others fits)) in
    let near : (v : Variant) → IsLonger tokens best v → IsNoShorter tokens letters v = (λ v longer others fits. not_before_trans (lens letters) (lens best) (lens others) low (before_once (lens best) (lens others) (longer others fits))) in
    rw fit.place
    (All-append (IsNoShorter tokens letters) fit.before (variant ∷ fit.after)
    (all_map (IsLonger tokens best) (IsNoShorter tokens letters) fit.before near fit.earlier)
    (All-cons (IsNoShorter tokens letters) variant fit.after (far variant fit.shortest) (all_map (IsNoShorter tokens best) (IsNoShorter tokens letters) fit.after far fit.later)))

-- the variant in front is best
front_best : (v : Variant) (variants : List Variant) (tokens : List Token) (letters : List (List Token)) → Shortest v.pieces tokens letters → All (IsNoShorter tokens letters) variants → IsShortestFit (v ∷ variants) tokens v letters
front_best v variants tokens letters found later = record {
  before = [];
  after = variants;
  place = refl;
  fits = found.fits;
  shortest = found.shortest;
  earlier = All-nil (IsLonger tokens letters);
  later = later;
}

-- one of the variants behind is best
behind_best : (v : Variant) (variants : List Variant) (tokens : List Token) (variant : Variant) (letters : List (List Token)) → IsLonger tokens letters v → IsShortestFit variants tokens variant letters → IsShortestFit (v ∷ variants) tokens variant letters
behind_best v variants tokens variant letters longer fit = record {
  before = v ∷ fit.before;
  after = fit.after;
  place = ap (λ vs. v ∷ vs) fit.place;
  fits = fit.fits;
  shortest = fit.shortest;
  earlier = All-cons (IsLonger tokens letters) v fit.before longer fit.earlier;
  later = fit.later;
}

best_more : (v : Variant) (variants : List Variant) (tokens : List Token) (first : Option (List (List Token))) (later : Option Found) → Fitted v.pieces tokens first → BestOf variants tokens later → BestOf (v ∷ variants) tokens (preferred (found_as v first) later)
best_more v variants tokens None None unfit none = All-cons (IsUnfit tokens) v variants unfit none
best_more v variants tokens None (Some later) unfit best = behind_best v variants tokens later.variant later.letters (λ others fits. absurd (unfit others fits)) best
best_more v variants tokens (Some letters) None found none = front_best v variants tokens letters found (all_map (IsUnfit tokens) (IsNoShorter tokens letters) variants (λ w unfit others fits. absurd (unfit others fits)) none)
best_more v variants tokens (Some letters) (Some later) found best =
    let Goal : Bool → Type 0 = λ shorter. are_shorter later.letters letters ≡ shorter → BestOf (v ∷ variants) tokens (if shorter then Some later else Some (record { variant = v; letters = letters }))
    in elim (are_shorter later.letters letters) as Goal [
      | true ↦ λ shorter. behind_best v variants tokens later.variant later.letters (λ others fits. before_trans (map length later.letters) (map length letters) (map length others) shorter (found.shortest others fits)) best
      | false ↦ λ longer. front_best v variants tokens letters found (later_longer variants tokens later.variant letters later.letters longer best)
    ] refl

pub best_is : (variants : List Variant) (tokens : List Token) → BestOf variants tokens (best_fit variants tokens)
best_is [] tokens = All-nil (IsUnfit tokens)
best_is (v ∷ variants) tokens = best_more v variants tokens (first_fit v.pieces tokens) (best_fit variants tokens) (fitted v.pieces tokens) (best_is variants tokens)

-- a variant that doesn't fit is nothing
pub passed_best : (v : Variant) (variants : List Variant) (tokens : List Token) → first_fit v.pieces tokens ≡ None → best_fit (v ∷ variants) tokens ≡ best_fit variants tokens
passed_best v variants tokens none = rw none refl

abbrev pub ReadAs : List (List Variant) → List Token → Option Found → Type 0
ReadAs forms tokens None = IsUnread forms tokens
ReadAs forms tokens (Some found) = IsReading forms tokens found.variant found.letters

lowest_more : (variants : List Variant) (forms : List (List Variant)) (tokens : List Token) (first later : Option Found) → BestOf variants tokens first → ReadAs forms tokens later → ReadAs (variants ∷ forms) tokens (or_later first later)
lowest_more variants forms tokens None None unfit unread = All-cons (AreUnfit tokens) variants forms unfit unread
lowest_more variants forms tokens None (Some found) unfit reading = record {
  lower = variants ∷ reading.lower;
  variants = reading.variants;
  higher = reading.higher;
  place = ap (λ fs. variants ∷ fs) reading.place;
  lowest = All-cons (AreUnfit tokens) variants reading.lower unfit reading.lowest;
  fit = reading.fit;
}
lowest_more variants forms tokens (Some found) later best read = record {
  lower = [];
  variants = variants;
  higher = forms;
  place = refl;
  lowest = All-nil (AreUnfit tokens);
  fit = best;
}

-- what is found is the reading, and where nothing is found no form fits
pub read_as : (forms : List (List Variant)) (tokens : List Token) → ReadAs forms tokens (lowest_fit forms tokens)
read_as [] tokens = All-nil (AreUnfit tokens)
read_as (variants ∷ forms) tokens = lowest_more variants forms tokens (best_fit variants tokens) (lowest_fit forms tokens) (best_is variants tokens) (read_as forms tokens)
