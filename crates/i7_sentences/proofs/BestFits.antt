-- The best of some fits, and pieces with a letter behind them.
use Rattle.std.proofs.Common.{◌≡◌, ℕ, zero, suc, ◌<◌, Bool, true, false, List, [], ◌∷◌, ◌++◌, length, map, refl, ap, sym, ◌∙◌, subst, append_assoc, append-nil, arith}
use Rattle.std.specs.Prelude.{◌==◌, nat_lt, Option, Some, None, if◌then◌else◌}
use Rattle.std.proofs.lemmas.Bool.{eqb-true}
use Rattle.std.proofs.lemmas.Grind.{common_steps}
use Rattle.std.proofs.lemmas.Option.{same_Some}
use Rattle.i7_lexer.proofs.Rising.{map_append}
use Rattle.i7_lexer.specs.declared.token.Token.{Token}
use Rattle.i7_sentences.specs.Classes.{IsOf}
use Rattle.i7_sentences.specs.Forms.{Fits, are_shorter, comes_before}
use Rattle.i7_sentences.specs.Matching.{Found, preferred}
use Rattle.i7_sentences.specs.ValueFits.{best_below}
use Rattle.i7_sentences.specs.ValueForms.{last_letter}
use Rattle.i7_sentences.specs.declared.class.Class.{Class}
use Rattle.i7_sentences.specs.declared.form.Piece.{Piece}
use Rattle.i7_sentences.specs.declared.form.Piece.TheVariants.{Word, Letter}
use Rattle.i7_sentences.proofs.Lists.{before_not_self, before_once, before_trans}

pub none-found : {A : Type 0} (x : A) → None ≡ Some x → ⊥
none-found x e = cc

-- ---- the best of some fits

up_to : (P : ℕ → Type 0) (count : ℕ) → ((n : ℕ) → n < count → P n) → P count → (n : ℕ) → n < suc count → P n
up_to P count below here n low =
    let Goal : Bool → Type 0 = λ is. (n == count) ≡ is → P n
    in elim (n == count) as Goal [
      | true ↦ λ is. subst P (sym (eqb-true n count is)) here
      | false ↦ λ isnt. below n (grind (arith, common_steps, isnt, low))
    ] refl

abbrev pub IsLeast : (ℕ → Option Found) → List (List Token) → ℕ → Type 0
IsLeast at letters n = (found : Found) → at n ≡ Some found → are_shorter found.letters letters ≡ false

pub record IsBestAt (at : ℕ → Option Found) (count : ℕ) (best : Found) : Type 0 where
  pub n : ℕ
  pub is : at n ≡ Some best
  pub least : (m : ℕ) → m < count → IsLeast at best.letters m

abbrev pub IsBest : (ℕ → Option Found) → ℕ → Option Found → Type 0
IsBest at count None = (n : ℕ) → n < count → at n ≡ None
IsBest at count (Some best) = IsBestAt at count best

own_least : (at : ℕ → Option Found) (n : ℕ) (best : Found) → at n ≡ Some best → IsLeast at best.letters n
own_least at n best is found that =
    let same : found ≡ best = same_Some found best (sym that ∙ is) in
    ap (λ (f : Found). are_shorter f.letters best.letters) same ∙ before_not_self (map length best.letters)

best_step : (at : ℕ → Option Found) (count : ℕ) (first next : Option Found) → IsBest at count first → at count ≡ next → IsBest at (suc count) (preferred first next)
best_step at count None None best is = up_to (λ n. at n ≡ None) count best is
best_step at count None (Some next) best is = record {
  n = count;
  is = is;
  least = up_to (IsLeast at next.letters) count (λ m low found that. absurd (none-found found (sym (best m low) ∙ that))) (own_least at count next is);
}
best_step at count (Some first) None best is = record {
  n = best.n;
  is = best.is;
  least = up_to (IsLeast at first.letters) count best.least (λ found that. absurd (none-found found (sym is ∙ that)));
}
best_step at count (Some first) (Some next) best is =
    let Goal : Bool → Type 0 = λ shorter. are_shorter next.letters first.letters ≡ shorter → IsBest at (suc count) (if shorter then Some next else Some first)
    in elim (are_shorter next.letters first.letters) as Goal [
      | true ↦ λ shorter. record {
        n = count;
        is = is;
        least = up_to (IsLeast at next.letters) count
            (λ m low found that. before_once (map length next.letters) (map length found.letters) (before_trans (map length next.letters) (map length first.letters) (map length found.letters) shorter (best.least m low found that)))
            (own_least at count next is);
      }
      | false ↦ λ longer. record {
        n = best.n;
        is = best.is;
        least = up_to (IsLeast at first.letters) count best.least (λ found that. ap (λ (f : Found). are_shorter f.letters first.letters) (same_Some found next (sym that ∙ is)) ∙ longer);
      }
    ] refl

pub best_is : (at : ℕ → Option Found) (count : ℕ) → IsBest at count (best_below at count)
best_is at zero = λ n low. absurd (omega (arith, low))
best_is at (suc count) = best_step at count (best_below at count) (at count) (best_is at count) refl

-- ---- pieces with a letter behind them

pub fits_onto : (pieces : List Piece) (class : Class) (front back : List Token) (others : List (List Token)) → Fits pieces front others → IsOf class back → Fits (pieces ++ Letter class ∷ []) (front ++ back) (others ++ back ∷ [])
fits_onto [] class front back others fits is = record {
  words = back;
  rest = [];
  others = [];
  parts = ap (λ (ts : List Token). ts ++ back) fits.0 ∙ sym (append-nil back);
  is_of_class = is;
  keeps = ap (λ (ls : List (List Token)). ls ++ back ∷ []) fits.1;
  behind = (refl, refl);
}
fits_onto (Word keyword ∷ pieces) class front back others fits is = record {
  word = fits.word;
  rest = fits.rest ++ back;
  parts = ap (λ (ts : List Token). ts ++ back) fits.parts;
  is_word = fits.is_word;
  behind = fits_onto pieces class fits.rest back others fits.behind is;
}
fits_onto (Letter own ∷ pieces) class front back others fits is = record {
  words = fits.words;
  rest = fits.rest ++ back;
  others = fits.others ++ back ∷ [];
  parts = ap (λ (ts : List Token). ts ++ back) fits.parts ∙ append_assoc fits.words fits.rest back;
  is_of_class = fits.is_of_class;
  keeps = ap (λ (ls : List (List Token)). ls ++ back ∷ []) fits.keeps;
  behind = fits_onto pieces class fits.rest back fits.others fits.behind is;
}

pub record EndsSo (pieces : List Piece) (class : Class) (tokens : List Token) (letters : List (List Token)) : Type 0 where
  pub front : List Token
  pub back : List Token
  pub others : List (List Token)
  pub parts : tokens ≡ front ++ back
  pub is_of_class : IsOf class back
  pub keeps : letters ≡ others ++ back ∷ []
  pub fits : Fits pieces front others

pub fits_off : (pieces : List Piece) (class : Class) (tokens : List Token) (letters : List (List Token)) → Fits (pieces ++ Letter class ∷ []) tokens letters → EndsSo pieces class tokens letters
fits_off [] class tokens letters fits = record {
  front = [];
  back = fits.words;
  others = [];
  parts = fits.parts ∙ ap (λ (ts : List Token). fits.words ++ ts) fits.behind.0 ∙ append-nil fits.words;
  is_of_class = fits.is_of_class;
  keeps = fits.keeps ∙ ap (λ (ls : List (List Token)). fits.words ∷ ls) fits.behind.1;
  fits = (refl, refl);
}
fits_off (Word keyword ∷ pieces) class tokens letters fits =
    let later = fits_off pieces class fits.rest letters fits.behind in
    record {
      front = fits.word ∷ later.front;
      back = later.back;
      others = later.others;
      parts = fits.parts ∙ ap (λ (ts : List Token). fits.word ∷ ts) later.parts;
      is_of_class = later.is_of_class;
      keeps = later.keeps;
      fits = record { word = fits.word; rest = later.front; parts = refl; is_word = fits.is_word; behind = later.fits };
    }
fits_off (Letter own ∷ pieces) class tokens letters fits =
    let later = fits_off pieces class fits.rest fits.others fits.behind in
    record {
      front = fits.words ++ later.front;
      back = later.back;
      others = fits.words ∷ later.others;
      parts = fits.parts ∙ ap (λ (ts : List Token). fits.words ++ ts) later.parts ∙ sym (append_assoc fits.words later.front later.back);
      is_of_class = later.is_of_class;
      keeps = fits.keeps ∙ ap (λ (ls : List (List Token)). fits.words ∷ ls) later.keeps;
      fits = record { words = fits.words; rest = later.front; others = later.others; parts = refl; is_of_class = fits.is_of_class; keeps = refl; behind = later.fits };
    }

pub last_is : (letters : List (List Token)) (back : List Token) → last_letter (letters ++ back ∷ []) ≡ back
last_is [] back = refl
last_is (a ∷ []) back = refl
last_is (a ∷ b ∷ letters) back = last_is (b ∷ letters) back

pub same_count : (pieces : List Piece) (ts us : List Token) (a b : List (List Token)) → Fits pieces ts a → Fits pieces us b → length a ≡ length b
same_count [] ts us a b one other = ap length one.1 ∙ sym (ap length other.1)
same_count (Word keyword ∷ pieces) ts us a b one other = same_count pieces one.rest other.rest a b one.behind other.behind
same_count (Letter class ∷ pieces) ts us a b one other =
    ap length one.keeps ∙ ap suc (same_count pieces one.rest other.rest one.others other.others one.behind other.behind) ∙ sym (ap length other.keeps)

before_onto : (a b c : List ℕ) → length a ≡ length b → comes_before a b ≡ false → comes_before (a ++ c) (b ++ c) ≡ false
before_onto [] [] c len is = before_not_self c
before_onto [] (y ∷ b) c len is = absurd (omega (arith, len))
before_onto (x ∷ a) [] c len is = absurd (omega (arith, len))
before_onto (x ∷ a) (y ∷ b) c len is =
    let Goal : Bool → Type 0 = λ same. (if same then comes_before a b else nat_lt x y) ≡ false → (if same then comes_before (a ++ c) (b ++ c) else nat_lt x y) ≡ false
    in (elim (x == y) as Goal [
      | true ↦ λ later. before_onto a b c (omega (arith, len)) later
      | false ↦ λ higher. higher
    ]) is

pub onto_shortest : (others found : List (List Token)) (back : List Token) → length others ≡ length found → are_shorter others found ≡ false → are_shorter (others ++ back ∷ []) (found ++ back ∷ []) ≡ false
onto_shortest others found back len is =
    ap (λ (ns : List ℕ). comes_before ns (map length (found ++ back ∷ []))) (map_append length others (back ∷ []))
    ∙ ap (λ (ns : List ℕ). comes_before (map length others ++ length back ∷ []) ns) (map_append length found (back ∷ []))
    ∙ before_onto (map length others) (map length found) (length back ∷ []) (grind (arith, common_steps, len)) is
