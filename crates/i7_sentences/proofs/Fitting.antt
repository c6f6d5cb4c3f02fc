-- Fitting from left to right finds the fit with the shortest letters, if there is one.
use Rattle.std.proofs.Common.{◌≡◌, ℕ, ◌-◌, ◌≤◌, Bool, true, false, List, [], ◌∷◌, ◌++◌, length, map, take, drop, refl, ap, sym, ◌∙◌, subst, arith}
use Rattle.std.specs.Prelude.{nat_lt, ◌==◌, Option, Some, None, is_some, option_map, if◌then◌else◌}
use Rattle.std.proofs.lemmas.Grind.{common_steps}
use Rattle.std.proofs.lemmas.Bool.{false≢true}
use Rattle.i7_lexer.specs.declared.token.Token.{Token}
use Rattle.i7_sentences.specs.Keywords.{is_sign}
use Rattle.i7_sentences.specs.Forms.{Fits, comes_before, are_shorter}
use Rattle.i7_sentences.specs.Matching.{nearest, with_taken, first_fit, can_fit}
use Rattle.i7_sentences.specs.declared.keyword.Keyword.{Keyword}
use Rattle.i7_sentences.specs.declared.class.Class.{Class}
use Rattle.i7_sentences.specs.declared.class.State.TheVariants.{Start}
use Rattle.i7_sentences.specs.declared.form.Piece.{Piece}
use Rattle.i7_sentences.specs.declared.form.Piece.TheVariants.{Word, Letter}
use Rattle.i7_sentences.proofs.Lists.{nil-cons, same_head, same_tail, front_part, last_part}
use Rattle.i7_sentences.proofs.Ends.{Ended, Ends, ended}
use Rattle.i7_sentences.proofs.Automata.{of_runs, runs_of}

-- the pieces fit so, and with no shorter letters
pub record Shortest (pieces : List Piece) (tokens : List Token) (letters : List (List Token)) : Type 0 where
  pub fits : Fits pieces tokens letters
  pub shortest : (others : List (List Token)) → Fits pieces tokens others → are_shorter others letters ≡ false

abbrev pub Fitted : List Piece → List Token → Option (List (List Token)) → Type 0
Fitted pieces tokens None = (letters : List (List Token)) → Fits pieces tokens letters → ⊥
Fitted pieces tokens (Some letters) = Shortest pieces tokens letters

-- what fits can fit
pub fits_can : (pieces : List Piece) (tokens : List Token) (letters : List (List Token)) → Fitted pieces tokens (first_fit pieces tokens) → Fits pieces tokens letters → can_fit pieces tokens ≡ true
fits_can pieces tokens letters fitted fits =
    let Goal : Option (List (List Token)) → Type 0 = λ found. Fitted pieces tokens found → is_some found ≡ true
    in (elim (first_fit pieces tokens) as Goal [
      | None ↦ λ none. absurd (none letters fits)
      | Some words ↦ λ found. refl
    ]) fitted

-- the form's word in front
word_fitted : (keyword : Keyword) (pieces : List Piece) (token : Token) (tokens : List Token) → is_sign keyword token ≡ true → (found : Option (List (List Token))) → Fitted pieces tokens found → Fitted (Word keyword ∷ pieces) (token ∷ tokens) found
word_fitted keyword pieces token tokens it_is None none = λ letters fits.
    none letters (subst (λ ts. Fits pieces ts letters) (sym (same_tail token fits.word tokens fits.rest fits.parts)) fits.behind)
word_fitted keyword pieces token tokens it_is (Some words) found = record {
  fits = record { word = token; rest = tokens; parts = refl; is_word = it_is; behind = found.fits };
  shortest = λ others fits. found.shortest others (subst (λ ts. Fits pieces ts others) (sym (same_tail token fits.word tokens fits.rest fits.parts)) fits.behind);
}

-- equally long words in front are the same, and so are those behind
pub same_front : {X : Type 0} (xs ys as1 bs : List X) → xs ++ as1 ≡ ys ++ bs → length xs ≡ length ys → (xs ≡ ys) × (as1 ≡ bs)
same_front [] [] as1 bs e len = (refl, e)
same_front [] (y ∷ ys) as1 bs e len = absurd (omega (arith, len))
same_front (x ∷ xs) [] as1 bs e len = absurd (omega (arith, len))
same_front (x ∷ xs) (y ∷ ys) as1 bs e len =
    let tails = same_front xs ys as1 bs (same_tail x y (xs ++ as1) (ys ++ bs) e) (omega (arith, len)) in
    let heads = same_head x y (xs ++ as1) (ys ++ bs) e in
    (cc, tails.1)

pub later_first : (a b : ℕ) (as1 bs : List ℕ) → a ≤ b → (b ≡ a → comes_before bs as1 ≡ false) → comes_before (b ∷ bs) (a ∷ as1) ≡ false
later_first a b as1 bs low same =
    let Goal : Bool → Type 0 = λ here. (b == a) ≡ here → (if here then comes_before bs as1 else nat_lt b a) ≡ false
    in elim (b == a) as Goal [
      | true ↦ λ here. same (grind (arith, common_steps, here))
      | false ↦ λ here. grind (arith, common_steps, low)
    ] refl

-- a letter in front
letter_shortest : (class : Class) (pieces : List Piece) (tokens : List Token) (left : ℕ) (letters : List (List Token)) (end : Ends class Start (can_fit pieces) tokens left) → ((rest : List Token) → Fitted pieces rest (first_fit pieces rest)) → Shortest pieces end.rest letters → Shortest (Letter class ∷ pieces) tokens (end.words ∷ letters)
letter_shortest class pieces tokens left letters end fitted found = record {
  fits = record { words = end.words; rest = end.rest; others = letters; parts = end.parts; is_of_class = of_runs class end.words end.runs_there; keeps = refl; behind = found.fits };
  shortest = λ others fits.
      let low : length end.words ≤ length fits.words = end.is_nearest fits.words fits.rest fits.parts (runs_of class fits.words fits.is_of_class) (fits_can pieces fits.rest fits.others (fitted fits.rest) fits.behind) in
      let same : length fits.words ≡ length end.words → are_shorter fits.others letters ≡ false = (λ len.
      let parts = same_front fits.words end.words fits.rest end.rest (sym fits.parts ∙ end.parts) len in
      found.shortest fits.others (subst (λ ts. Fits pieces ts fits.others) parts.1 fits.behind)) in
      ap (λ words. are_shorter words (end.words ∷ letters)) fits.keeps ∙ later_first (length end.words) (length fits.words) (map length letters) (map length fits.others) low same;
}

letter_fitted : (class : Class) (pieces : List Piece) (tokens : List Token) → ((rest : List Token) → Fitted pieces rest (first_fit pieces rest)) → (left : Option ℕ) → Ended class Start (can_fit pieces) tokens left → Fitted (Letter class ∷ pieces) tokens (with_taken true tokens left (first_fit pieces))
letter_fitted class pieces tokens fitted None none = λ letters fits. none fits.words fits.rest fits.parts (runs_of class fits.words fits.is_of_class) (fits_can pieces fits.rest fits.others (fitted fits.rest) fits.behind)
letter_fitted class pieces tokens fitted (Some left) end =
    let words_are : take (length tokens - left) tokens ≡ end.words = rw (end.left_is, end.parts) (front_part end.words end.rest) in
    let rest_is : drop (length tokens - left) tokens ≡ end.rest = rw (end.left_is, end.parts) (last_part end.words end.rest) in
    let Goal : Option (List (List Token)) → Type 0 = λ found. is_some found ≡ true → Fitted pieces end.rest found → Fitted (Letter class ∷ pieces) tokens (option_map (λ letters. end.words ∷ letters) found) in
    let done : Goal (first_fit pieces end.rest) = elim (first_fit pieces end.rest) as Goal [
      | None ↦ λ can none. absurd (false≢true can)
      | Some letters ↦ λ can found. letter_shortest class pieces tokens left letters end fitted found
    ] in
    rw (words_are, rest_is) (done end.can_rest (fitted end.rest))

-- what is found is the shortest fit, and where nothing is found the pieces don't fit
pub fitted : (pieces : List Piece) (tokens : List Token) → Fitted pieces tokens (first_fit pieces tokens)
fitted [] [] = record { fits = (refl, refl); shortest = λ others fits. rw fits.1 refl }
fitted [] (token ∷ tokens) = λ letters fits. nil-cons token tokens (sym fits.0)
fitted (Word keyword ∷ pieces) [] = λ letters fits. nil-cons fits.word fits.rest fits.parts
fitted (Word keyword ∷ pieces) (token ∷ tokens) =
    let Goal : Bool → Type 0 = λ here. is_sign keyword token ≡ here → Fitted (Word keyword ∷ pieces) (token ∷ tokens) (with_taken false (token ∷ tokens) (if here then Some (length tokens) else None) (first_fit pieces))
    in elim (is_sign keyword token) as Goal [
      | true ↦ λ here. rw (last_part (token ∷ []) tokens) (word_fitted keyword pieces token tokens here (first_fit pieces tokens) (fitted pieces tokens))
      | false ↦ λ here. λ letters fits. false≢true (sym here ∙ ap (λ t. is_sign keyword t) (same_head token fits.word tokens fits.rest fits.parts) ∙ fits.is_word)
    ] refl
fitted (Letter class ∷ pieces) tokens = letter_fitted class pieces tokens (λ rest. fitted pieces rest) (nearest class Start (can_fit pieces) tokens) (ended class Start (can_fit pieces) tokens)
