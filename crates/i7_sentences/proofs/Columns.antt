-- The columns tell from where pieces can fit.
use Rattle.std.proofs.Common.{inl, inr, ◌≡◌, ℕ, zero, suc, ◌+◌, ◌-◌, Bool, true, false, List, [], ◌∷◌, ◌++◌, length, take, drop, get_or, refl, ap, sym, ◌∙◌, subst, arith, append_assoc}
use Rattle.std.specs.Prelude.{not, ◌&&◌, ◌||◌, Option, Some, None, is_some, option_map, if◌then◌else◌}
use Rattle.std.specs.List.{list_any}
use Rattle.std.proofs.lemmas.List.{length-append, take-append-drop}
use Rattle.std.proofs.lemmas.Bool.{false≢true, or_cases, not-true}
use Rattle.i7_lexer.specs.declared.token.Token.{Token}
use Rattle.i7_sentences.specs.Keywords.{is_sign}
use Rattle.i7_sentences.specs.Automata.{accepts, step}
use Rattle.i7_sentences.specs.Matching.{nearest, then_left, left_by, with_taken, first_fit, can_fit, column_of, end_column, first_column, looked, word_column, ahead_at, then_ahead, ahead_of, letter_column, piece_column, IsEndOf, Never, is_never}
use Rattle.i7_sentences.specs.declared.keyword.Keyword.{Keyword}
use Rattle.i7_sentences.specs.declared.class.Class.{Class}
use Rattle.i7_sentences.specs.declared.class.State.{State}
use Rattle.i7_sentences.specs.declared.class.State.TheVariants.{Start, Inside, Between, Beside}
use Rattle.i7_sentences.specs.declared.form.Piece.{Piece}
use Rattle.i7_sentences.specs.declared.form.Piece.TheVariants.{Word, Letter}
use Rattle.i7_sentences.proofs.Lists.{last_part, get_here, get_before}
use Rattle.i7_sentences.proofs.Ends.{Ended, ended}
use Rattle.i7_sentences.proofs.Alike.{and_false}

pub length-column : (pieces : List Piece) (tokens : List Token) → length (column_of pieces tokens) ≡ length tokens + 1
length-column pieces [] = refl
length-column pieces (token ∷ tokens) = length-append (column_of pieces tokens) (can_fit pieces (token ∷ tokens) ∷ []) ∙ (rw (length-column pieces tokens) (omega arith))

-- a column's answer is whether the pieces can fit so many last words
pub tells : (pieces : List Piece) (front rest : List Token) → looked (column_of pieces (front ++ rest)) (length rest) ≡ can_fit pieces rest
tells pieces [] [] = refl
tells pieces [] (token ∷ tokens) =
    ap (λ i. get_or (column_of pieces tokens ++ can_fit pieces (token ∷ tokens) ∷ []) i false) (omega (arith, length-column pieces tokens))
    ∙ get_here (column_of pieces tokens) (can_fit pieces (token ∷ tokens)) false
tells pieces (first ∷ front) rest =
    get_before (column_of pieces (front ++ rest)) (can_fit pieces (first ∷ (front ++ rest)) ∷ []) (length rest) false (omega (arith, length-column pieces (front ++ rest), length-append front rest))
    ∙ tells pieces front rest

-- what a column answers to each count of these words
abbrev pub Tells : (List Token → Bool) → List Bool → List Token → Type 0
Tells can column tokens = (front rest : List Token) → tokens ≡ front ++ rest → looked column (length rest) ≡ can rest

pub column_tells : (pieces : List Piece) (tokens : List Token) → Tells (can_fit pieces) (column_of pieces tokens) tokens
column_tells pieces tokens front rest parts = rw parts (tells pieces front rest)

pub tells_fewer : (can : List Token → Bool) (column : List Bool) (gone rest : List Token) → Tells can column (gone ++ rest) → Tells can column rest
tells_fewer can column gone rest told front others parts = told (gone ++ front) others (rw parts (sym (append_assoc gone front others)))

-- the nearest end by a column's answers
pub nearest_same : (class : Class) (state : State) (can : List Token → Bool) (column : List Bool) (tokens : List Token) → Tells can column tokens → nearest class state (λ rest. looked column (length rest)) tokens ≡ nearest class state can tokens
nearest_same class state can column [] told = rw (told [] [] refl) refl
nearest_same class state can column (token ∷ tokens) told =
    let Goal : Option State → Type 0 = λ next. then_left next (λ after. nearest class after (λ rest. looked column (length rest)) tokens) ≡ then_left next (λ after. nearest class after can tokens) in
    let later : Goal (step class state token) = elim (step class state token) as Goal [
      | None ↦ refl
      | Some after ↦ nearest_same class after can column tokens (tells_fewer can column (token ∷ []) tokens told)
    ] in
    rw (told [] (token ∷ tokens) refl, later) refl

-- a word of the form can be taken where it stands and the pieces behind it can fit
pub can_word : (keyword : Keyword) (pieces : List Piece) (token : Token) (tokens : List Token) → can_fit (Word keyword ∷ pieces) (token ∷ tokens) ≡ (is_sign keyword token && can_fit pieces tokens)
can_word keyword pieces token tokens =
    let Goal : Bool → Type 0 = λ here. is_some (with_taken false (token ∷ tokens) (if here then Some (length tokens) else None) (first_fit pieces)) ≡ (here && can_fit pieces tokens)
    in elim (is_sign keyword token) as Goal [
      | true ↦ ap (can_fit pieces) (last_part (token ∷ []) tokens)
      | false ↦ refl
    ]

-- what is kept or not changes nothing of whether it fits
pub can_kept : (tokens : List Token) (letters : Option (List (List Token))) (words : List Token) → is_some (option_map (λ others. words ∷ others) letters) ≡ is_some letters
can_kept tokens None words = refl
can_kept tokens (Some letters) words = refl

-- a letter can be taken where it has an end
pub can_letter : (class : Class) (pieces : List Piece) (tokens : List Token) → can_fit (Letter class ∷ pieces) tokens ≡ is_some (nearest class Start (can_fit pieces) tokens)
can_letter class pieces tokens =
    let Goal : Option ℕ → Type 0 = λ left. Ended class Start (can_fit pieces) tokens left → is_some (with_taken true tokens left (first_fit pieces)) ≡ is_some left
    in (elim (nearest class Start (can_fit pieces) tokens) as Goal [
      | None ↦ λ none. refl
      | Some left ↦ λ found.
          let rest_is : drop (length tokens - left) tokens ≡ found.rest = rw (found.left_is, found.parts) (last_part found.words found.rest) in
          can_kept tokens (first_fit pieces (drop (length tokens - left) tokens)) (take (length tokens - left) tokens)
          ∙ ap (can_fit pieces) rest_is ∙ found.can_rest
    ]) (ended class Start (can_fit pieces) tokens)

-- a letter that is read so far can end where it has an end
pub is_some-if : {X : Type 0} (here : Bool) (x : X) (later : Option X) → is_some (if here then Some x else later) ≡ (here || is_some later)
is_some-if true x later = refl
is_some-if false x later = refl

pub is_some-lone : {X : Type 0} (here : Bool) (x : X) → is_some (if here then Some x else None) ≡ here
is_some-lone true x = refl
is_some-lone false x = refl

ahead_none : (class : Class) (can : List Token → Bool) (column : List Bool) (state : State) → Tells can column [] → (accepts state && looked column 0) ≡ is_some (nearest class state can [])
ahead_none class can column state told = ap (λ here. accepts state && here) (told [] [] refl) ∙ sym (is_some-lone (accepts state && can []) 0)

ahead_then : (class : Class) (can : List Token → Bool) (column : List Bool) (tokens : List Token) → ((state : State) → ahead_at (ahead_of class column tokens) state ≡ is_some (nearest class state can tokens)) → (next : Option State) → then_ahead (ahead_of class column tokens) next ≡ is_some (then_left next (λ after. nearest class after can tokens))
ahead_then class can column tokens later None = refl
ahead_then class can column tokens later (Some after) = later after

ahead_more : (class : Class) (can : List Token → Bool) (column : List Bool) (token : Token) (tokens : List Token) (state : State) → Tells can column (token ∷ tokens) → ((state : State) → ahead_at (ahead_of class column tokens) state ≡ is_some (nearest class state can tokens)) → ((accepts state && looked column (length (token ∷ tokens))) || then_ahead (ahead_of class column tokens) (step class state token)) ≡ is_some (nearest class state can (token ∷ tokens))
ahead_more class can column token tokens state told later =
    rw (told [] (token ∷ tokens) refl, ahead_then class can column tokens later (step class state token))
    (sym (is_some-if (accepts state && can (token ∷ tokens)) (length (token ∷ tokens)) (then_left (step class state token) (λ after. nearest class after can tokens))))

pub ahead_same : (class : Class) (can : List Token → Bool) (column : List Bool) (tokens : List Token) → Tells can column tokens → (state : State) → ahead_at (ahead_of class column tokens) state ≡ is_some (nearest class state can tokens)
ahead_same class can column [] told Start = ahead_none class can column Start told
ahead_same class can column [] told Inside = ahead_none class can column Inside told
ahead_same class can column [] told Between = ahead_none class can column Between told
ahead_same class can column [] told Beside = ahead_none class can column Beside told
ahead_same class can column (token ∷ tokens) told Start = ahead_more class can column token tokens Start told (ahead_same class can column tokens (tells_fewer can column (token ∷ []) tokens told))
ahead_same class can column (token ∷ tokens) told Inside = ahead_more class can column token tokens Inside told (ahead_same class can column tokens (tells_fewer can column (token ∷ []) tokens told))
ahead_same class can column (token ∷ tokens) told Between = ahead_more class can column token tokens Between told (ahead_same class can column tokens (tells_fewer can column (token ∷ []) tokens told))
ahead_same class can column (token ∷ tokens) told Beside = ahead_more class can column token tokens Beside told (ahead_same class can column tokens (tells_fewer can column (token ∷ []) tokens told))

pub word_column_same : (keyword : Keyword) (pieces : List Piece) (column : List Bool) (tokens : List Token) → Tells (can_fit pieces) column tokens → word_column keyword column tokens ≡ column_of (Word keyword ∷ pieces) tokens
word_column_same keyword pieces column [] told = refl
word_column_same keyword pieces column (token ∷ tokens) told =
    let fewer = tells_fewer (can_fit pieces) column (token ∷ []) tokens told in
    rw (word_column_same keyword pieces column tokens fewer, can_word keyword pieces token tokens, fewer [] tokens refl) refl

pub letter_column_same : (class : Class) (pieces : List Piece) (column : List Bool) (tokens : List Token) → Tells (can_fit pieces) column tokens → letter_column class column tokens ≡ column_of (Letter class ∷ pieces) tokens
letter_column_same class pieces column [] told = ap (λ here. here ∷ []) (ahead_same class (can_fit pieces) column [] told Start ∙ sym (can_letter class pieces []))
letter_column_same class pieces column (token ∷ tokens) told =
    let fewer = tells_fewer (can_fit pieces) column (token ∷ []) tokens told in
    let here : (ahead_of class column (token ∷ tokens)).start ≡ can_fit (Letter class ∷ pieces) (token ∷ tokens) = ahead_same class (can_fit pieces) column (token ∷ tokens) told Start ∙ sym (can_letter class pieces (token ∷ tokens)) in
    ap (λ front. front ++ (ahead_of class column (token ∷ tokens)).start ∷ []) (letter_column_same class pieces column tokens fewer)
    ∙ ap (λ can. column_of (Letter class ∷ pieces) tokens ++ can ∷ []) here

pub piece_column_same : (piece : Piece) (pieces : List Piece) (column : List Bool) (tokens : List Token) → Tells (can_fit pieces) column tokens → piece_column piece column tokens ≡ column_of (piece ∷ pieces) tokens
piece_column_same (Word keyword) pieces column tokens told = word_column_same keyword pieces column tokens told
piece_column_same (Letter class) pieces column tokens told = letter_column_same class pieces column tokens told

end_tells : (rest : List Token) → looked end_column (length rest) ≡ can_fit [] rest
end_tells [] = refl
end_tells (token ∷ rest) = refl

pub first_tells : (pieces : List Piece) (tokens : List Token) → Tells (can_fit pieces) (first_column pieces tokens) tokens
first_tells [] tokens = λ front rest parts. end_tells rest
first_tells (piece ∷ pieces) tokens =
    subst (λ column. Tells (can_fit (piece ∷ pieces)) column tokens) (sym (piece_column_same piece pieces (first_column pieces tokens) tokens (first_tells pieces tokens))) (column_tells (piece ∷ pieces) tokens)

-- a piece's end by the column that was told
pub left_same : (piece : Piece) (pieces : List Piece) (tokens rest : List Token) → IsEndOf rest tokens → left_by piece (λ others. looked (first_column pieces tokens) (length others)) rest ≡ left_by piece (can_fit pieces) rest
left_same (Word keyword) pieces tokens rest at_end = refl
left_same (Letter class) pieces tokens rest at_end =
    nearest_same class Start (can_fit pieces) (first_column pieces tokens) rest
    (tells_fewer (can_fit pieces) (first_column pieces tokens) at_end.front rest (subst (λ words. Tells (can_fit pieces) (first_column pieces tokens) words) at_end.parts (first_tells pieces tokens)))

-- what is left of an end of words is one too
pub end_later : (n : ℕ) (rest tokens : List Token) → IsEndOf rest tokens → IsEndOf (drop n rest) tokens
end_later n rest tokens at_end = record {
  front = at_end.front ++ take n rest;
  parts = at_end.parts ∙ ap (λ ts. at_end.front ++ ts) (sym (take-append-drop n rest)) ∙ sym (append_assoc at_end.front (take n rest) (drop n rest));
}

-- a column without a yes
pub all_no : (column : List Bool) (i : ℕ) → list_any (λ yes. yes) column ≡ false → looked column i ≡ false
all_no [] zero none = refl
all_no [] (suc i) none = refl
all_no (true ∷ column) i none = absurd (false≢true (sym none))
all_no (false ∷ column) zero none = refl
all_no (false ∷ column) (suc i) none = all_no column i none

pub never_told : (pieces : List Piece) (tokens : List Token) → list_any (λ yes. yes) (first_column pieces tokens) ≡ false → Never pieces tokens
never_told pieces tokens none rest at_end =
    sym (first_tells pieces tokens at_end.front rest at_end.parts) ∙ all_no (first_column pieces tokens) (length rest) none

-- pieces that fit no last words fit none behind another piece
pub none_nearest : (class : Class) (state : State) (can : List Token → Bool) (tokens : List Token) → ((rest : List Token) → IsEndOf rest tokens → can rest ≡ false) → is_some (nearest class state can tokens) ≡ false
none_nearest class state can tokens never =
    let Goal : Option ℕ → Type 0 = λ left. Ended class state can tokens left → is_some left ≡ false
    in (elim (nearest class state can tokens) as Goal [
      | None ↦ λ none. refl
      | Some left ↦ λ found. absurd (false≢true (sym (never found.rest (record { front = found.words; parts = found.parts })) ∙ found.can_rest))
    ]) (ended class state can tokens)

end_trans : (rest middle tokens : List Token) → IsEndOf rest middle → IsEndOf middle tokens → IsEndOf rest tokens
end_trans rest middle tokens one two = record { front = two.front ++ one.front; parts = two.parts ∙ ap (λ ts. two.front ++ ts) one.parts ∙ sym (append_assoc two.front one.front rest) }

pub never_more : (piece : Piece) (pieces : List Piece) (tokens : List Token) → Never pieces tokens → Never (piece ∷ pieces) tokens
never_more (Word keyword) pieces tokens never [] at_end = refl
never_more (Word keyword) pieces tokens never (token ∷ rest) at_end = can_word keyword pieces token rest ∙ and_false (is_sign keyword token) (can_fit pieces rest) (never rest (end_trans rest (token ∷ rest) tokens (record { front = token ∷ []; parts = refl }) at_end))
never_more (Letter class) pieces tokens never rest at_end = can_letter class pieces rest ∙ none_nearest class Start (can_fit pieces) rest (λ others at. never others (end_trans others rest tokens at at_end))

pub never_none : (pieces : List Piece) (tokens : List Token) → Never pieces tokens → first_fit pieces tokens ≡ None
never_none pieces tokens never =
    let Goal : Option (List (List Token)) → Type 0 = λ found. is_some found ≡ false → found ≡ None
    in (elim (first_fit pieces tokens) as Goal [
      | None ↦ λ missing. refl
      | Some letters ↦ λ missing. absurd (false≢true (sym missing))
    ]) (never tokens (record { front = []; parts = refl }))

pub never_is : (pieces : List Piece) (tokens : List Token) → is_never pieces tokens ≡ true → Never pieces tokens
never_is [] tokens never = absurd (false≢true never)
never_is (piece ∷ pieces) tokens never =
    elim (or_cases (is_never pieces tokens) (not (list_any (λ yes. yes) (first_column (piece ∷ pieces) tokens))) never) as (λ v. Never (piece ∷ pieces) tokens) [
      | inl before ↦ never_more piece pieces tokens (never_is pieces tokens before)
      | inr here ↦ never_told (piece ∷ pieces) tokens (not-true (list_any (λ yes. yes) (first_column (piece ∷ pieces) tokens)) here)
    ]

pub never_fits : (pieces : List Piece) (tokens : List Token) → is_never pieces tokens ≡ true → first_fit pieces tokens ≡ None
never_fits pieces tokens never = never_none pieces tokens (never_is pieces tokens never)
