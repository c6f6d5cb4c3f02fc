-- Pieces that can't begin with the first word don't fit, nor do those of which one can begin with none.
use Rattle.std.proofs.Common.{◌≡◌, Bool, true, false, List, [], ◌∷◌, ◌++◌, refl, ap, sym, ◌∙◌}
use Rattle.std.specs.Prelude.{not, ◌||◌, Option, Some, None, is_some}
use denote.Enum.Bare.{sameb}
use Rattle.std.specs.List.{cons_option, list_any}
use Rattle.std.proofs.lemmas.Bool.{false≢true, or_right}
use Rattle.i7_lexer.specs.declared.token.Token.{Token}
use Rattle.i7_sentences.specs.Keywords.{is_among, is_same, is_sign, keyword_of, signs_of}
use Rattle.i7_sentences.specs.Forms.{Fits}
use Rattle.i7_sentences.specs.Matching.{can_begin, can_take, first_fit, is_absent, is_missing}
use Rattle.i7_sentences.specs.Automata.{is_of, runs, step, then_runs}
use Rattle.i7_sentences.specs.declared.class.Class.{Class}
use Rattle.i7_sentences.specs.declared.class.State.{State}
use Rattle.i7_sentences.specs.declared.class.State.TheVariants.{Start}
use Rattle.i7_sentences.proofs.Automata.{runs_of}
use Rattle.i7_sentences.specs.contracts.keyword.Keyword.{the_type}
use Rattle.i7_sentences.specs.declared.keyword.Keyword.{Keyword}
use Rattle.i7_sentences.specs.declared.form.Piece.{Piece}
use Rattle.i7_sentences.specs.declared.form.Piece.TheVariants.{Word, Letter}
use Rattle.i7_sentences.proofs.Lists.{nil-cons, same_head}
use Rattle.i7_sentences.proofs.Fitting.{Fitted, fitted}

-- what stands nowhere among words stands nowhere behind some of them
nowhere_behind : (test : Token → Bool) (front rest : List Token) → list_any test (front ++ rest) ≡ false → list_any test rest ≡ false
nowhere_behind test [] rest nowhere = nowhere
nowhere_behind test (token ∷ front) rest nowhere =
    let Goal : Bool → Type 0 = λ here. (here || list_any test (front ++ rest)) ≡ false → list_any test rest ≡ false
    in (elim (test token) as Goal [
      | true ↦ λ none. absurd (false≢true (sym none))
      | false ↦ λ none. nowhere_behind test front rest none
    ]) nowhere

missing_behind : (pieces : List Piece) (front rest : List Token) → list_any (is_missing (front ++ rest)) pieces ≡ true → list_any (is_missing rest) pieces ≡ true
missing_behind [] front rest missing = missing
missing_behind (piece ∷ pieces) front rest missing =
    let Goal : Bool → Type 0 = λ stands. list_any (can_take piece) (front ++ rest) ≡ stands → (not stands || list_any (is_missing (front ++ rest)) pieces) ≡ true → list_any (is_missing rest) (piece ∷ pieces) ≡ true in
    let Here : Bool → Type 0 = λ stands. list_any (is_missing (front ++ rest)) pieces ≡ true → (not stands || list_any (is_missing rest) pieces) ≡ true
    in (elim (list_any (can_take piece) (front ++ rest)) as Goal [
      | true ↦ λ stands more. (elim (list_any (can_take piece) rest) as Here [
        | true ↦ λ later. missing_behind pieces front rest later
        | false ↦ λ later. refl
      ]) more
      | false ↦ λ stands more. rw (nowhere_behind (can_take piece) front rest stands) refl
    ]) refl missing

stands_first : (piece : Piece) (token : Token) (tokens : List Token) → can_take piece token ≡ true → list_any (can_take piece) (token ∷ tokens) ≡ true
stands_first piece token tokens is = rw is refl

-- a word or mark stands among the tokens where it is among their signs
among_is : (keyword : Keyword) (tokens : List Token) → is_among keyword (signs_of tokens) ≡ list_any (is_sign keyword) tokens
unfolding is_sign
among_is keyword [] = refl
among_is keyword (token ∷ tokens) =
    let Goal : Option Keyword → Type 0 = λ found. is_among keyword (cons_option found (signs_of tokens)) ≡ (is_same found keyword || list_any (is_sign keyword) tokens)
    in elim (keyword_of token) as Goal [
      | None ↦ among_is keyword tokens
      | Some sign ↦ ap (λ later. sameb the_type sign keyword || later) (among_is keyword tokens)
    ]

or_more : (a b c : Bool) → (b ≡ true → c ≡ true) → (a || b) ≡ true → (a || c) ≡ true
or_more true b c turn one = refl
or_more false b c turn one = turn one

absent_missing : (pieces : List Piece) (tokens : List Token) → list_any (is_absent (signs_of tokens)) pieces ≡ true → list_any (is_missing tokens) pieces ≡ true
absent_missing [] tokens absent = absent
absent_missing (Letter class ∷ pieces) tokens absent = or_right (is_missing tokens (Letter class)) (list_any (is_missing tokens) pieces) (absent_missing pieces tokens absent)
absent_missing (Word keyword ∷ pieces) tokens absent =
    or_more (not (list_any (is_sign keyword) tokens)) (list_any (is_absent (signs_of tokens)) pieces) (list_any (is_missing tokens) pieces) (absent_missing pieces tokens)
    (ap (λ here. not here || list_any (is_absent (signs_of tokens)) pieces) (sym (among_is keyword tokens)) ∙ absent)

-- a letter's words begin with one that it can begin with
letter_begins : (class : Class) (token : Token) (words : List Token) → is_of class (token ∷ words) ≡ true → is_some (step class Start token) ≡ true
letter_begins class token words taken =
    let Goal : Option State → Type 0 = λ next. then_runs next (λ after. runs class after words) ≡ true → is_some next ≡ true
    in (elim (step class Start token) as Goal [
      | None ↦ λ none. absurd (false≢true none)
      | Some state ↦ λ some. refl
    ]) taken

letter_stands : (class : Class) (tokens words rest : List Token) → tokens ≡ words ++ rest → is_of class words ≡ true → list_any (can_take (Letter class)) tokens ≡ true
letter_stands class tokens [] rest parts taken = absurd (false≢true taken)
letter_stands class tokens (first ∷ words) rest parts taken =
    ap (list_any (can_take (Letter class))) parts ∙ stands_first (Letter class) first (words ++ rest) (letter_begins class first words taken)

-- where the first piece stands, one of those behind it is missing in what is behind its words
later_missing : (piece : Piece) (pieces : List Piece) (tokens front rest : List Token) → tokens ≡ front ++ rest → list_any (can_take piece) tokens ≡ true → list_any (is_missing tokens) (piece ∷ pieces) ≡ true → list_any (is_missing rest) pieces ≡ true
later_missing piece pieces tokens front rest parts stands missing =
    missing_behind pieces front rest
    (ap (λ ts. list_any (is_missing ts) pieces) (sym parts) ∙ (ap (λ here. not here || list_any (is_missing tokens) pieces) (sym stands) ∙ missing))

unfit : (pieces : List Piece) (tokens : List Token) (letters : List (List Token)) → list_any (is_missing tokens) pieces ≡ true → Fits pieces tokens letters → ⊥
unfit [] tokens letters missing fits = false≢true missing
unfit (Letter class ∷ pieces) tokens letters missing fits =
    let stands : list_any (can_take (Letter class)) tokens ≡ true = letter_stands class tokens fits.words fits.rest fits.parts (runs_of class fits.words fits.is_of_class) in
    unfit pieces fits.rest fits.others (later_missing (Letter class) pieces tokens fits.words fits.rest fits.parts stands missing) fits.behind
unfit (Word keyword ∷ pieces) tokens letters missing fits =
    let stands : list_any (can_take (Word keyword)) tokens ≡ true = ap (list_any (can_take (Word keyword))) fits.parts ∙ stands_first (Word keyword) fits.word fits.rest fits.is_word in
    unfit pieces fits.rest letters (later_missing (Word keyword) pieces tokens (fits.word ∷ []) fits.rest fits.parts stands missing) fits.behind

pub missing_fits : (pieces : List Piece) (tokens : List Token) → list_any (is_missing tokens) pieces ≡ true → first_fit pieces tokens ≡ None
missing_fits pieces tokens missing =
    let Goal : Option (List (List Token)) → Type 0 = λ found. Fitted pieces tokens found → found ≡ None
    in (elim (first_fit pieces tokens) as Goal [
      | None ↦ λ none. refl
      | Some letters ↦ λ found. absurd (unfit pieces tokens letters missing found.fits)
    ]) (fitted pieces tokens)

letter_taken : (class : Class) (token : Token) (tokens words rest : List Token) → token ∷ tokens ≡ words ++ rest → is_of class words ≡ true → is_some (step class Start token) ≡ true
letter_taken class token tokens [] rest parts taken = absurd (false≢true taken)
letter_taken class token tokens (first ∷ words) rest parts taken =
    ap (λ t. is_some (step class Start t)) (same_head token first tokens (words ++ rest) parts) ∙ letter_begins class first words taken

begins : (pieces : List Piece) (tokens : List Token) (letters : List (List Token)) → Fits pieces tokens letters → can_begin pieces tokens ≡ true
begins [] tokens letters fits = refl
begins (Word keyword ∷ pieces) [] letters fits = absurd (nil-cons fits.word fits.rest fits.parts)
begins (Word keyword ∷ pieces) (token ∷ tokens) letters fits = ap (is_sign keyword) (same_head token fits.word tokens fits.rest fits.parts) ∙ fits.is_word
begins (Letter class ∷ pieces) [] letters fits = absurd (none_taken class fits.words fits.rest fits.parts (runs_of class fits.words fits.is_of_class))
  where
    none_taken : (class' : Class) (words rest : List Token) → [] ≡ words ++ rest → is_of class' words ≡ true → ⊥
    none_taken class' [] rest parts taken = false≢true taken
    none_taken class' (first ∷ words) rest parts taken = nil-cons first (words ++ rest) parts
begins (Letter class ∷ pieces) (token ∷ tokens) letters fits = letter_taken class token tokens fits.words fits.rest fits.parts (runs_of class fits.words fits.is_of_class)

pub never_begins : (pieces : List Piece) (tokens : List Token) → can_begin pieces tokens ≡ false → first_fit pieces tokens ≡ None
never_begins pieces tokens never =
    let Goal : Option (List (List Token)) → Type 0 = λ found. Fitted pieces tokens found → found ≡ None
    in (elim (first_fit pieces tokens) as Goal [
      | None ↦ λ none. refl
      | Some letters ↦ λ found. absurd (false≢true (sym never ∙ begins pieces tokens letters found.fits))
    ]) (fitted pieces tokens)

pub absent_fits : (pieces : List Piece) (tokens : List Token) (signs : List Keyword) → signs ≡ signs_of tokens → list_any (is_absent signs) pieces ≡ true → first_fit pieces tokens ≡ None
absent_fits pieces tokens signs same absent = missing_fits pieces tokens (absent_missing pieces tokens (ap (λ these. list_any (is_absent these) pieces) (sym same) ∙ absent))
