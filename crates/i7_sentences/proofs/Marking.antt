-- The table of words and marks marks those that stand among tokens.
use Rattle.std.proofs.Common.{◌≡◌, ℕ, zero, suc, Bool, true, false, not, List, [], ◌∷◌, get_or, refl, ap, sym, ◌∙◌}
use Rattle.std.specs.Prelude.{◌||◌, None, slice_set, fold}
use Rattle.std.specs.List.{list_any}
use Rattle.std.proofs.lemmas.Bool.{false≢true}
use Rattle.std.proofs.Math.Bool.{or-true}
use denote.Enum.Bare.{sameb, same_true}
use Rattle.i7_lexer.specs.declared.token.Token.{Token}
use Rattle.i7_sentences.specs.contracts.keyword.Keyword.{the_type}
use Rattle.i7_sentences.specs.Keywords.{is_among, signs_of}
use Rattle.i7_sentences.specs.Matching.{first_fit, is_absent}
use Rattle.i7_sentences.specs.Signs.{is_marked, is_unmarked, marked, no_marks, place_of, table_of}
use Rattle.i7_sentences.specs.declared.keyword.Keyword.{Keyword}
use Rattle.i7_sentences.specs.declared.form.Piece.{Piece}
use Rattle.i7_sentences.specs.declared.form.Piece.TheVariants.{Word, Letter}
use Rattle.i7_sentences.proofs.Missing.{absent_fits}

-- what is marked stays so
stays : (table : List Bool) (i j : ℕ) → get_or table j true ≡ true → get_or (slice_set table i true) j true ≡ true
stays [] i j is = is
stays (x ∷ table) zero zero is = refl
stays (x ∷ table) zero (suc j) is = is
stays (x ∷ table) (suc i) zero is = is
stays (x ∷ table) (suc i) (suc j) is = stays table i j is

there : (table : List Bool) (i : ℕ) → get_or (slice_set table i true) i true ≡ true
there [] i = refl
there (x ∷ table) zero = refl
there (x ∷ table) (suc i) = there table i

still_marked : (signs : List Keyword) (table : List Bool) (keyword : Keyword) → is_marked table keyword ≡ true → is_marked (fold marked table signs) keyword ≡ true
still_marked [] table keyword is = is
still_marked (sign ∷ signs) table keyword is = still_marked signs (marked table sign) keyword (stays table (place_of sign) (place_of keyword) is)

-- each sign is marked
abbrev AreMarked : List Bool → List Keyword → Type 0
AreMarked table signs = (keyword : Keyword) → is_among keyword signs ≡ true → is_marked table keyword ≡ true

marked_either : (same later there : Bool) → (same ≡ true → there ≡ true) → (later ≡ true → there ≡ true) → (same || later) ≡ true → there ≡ true
marked_either true later there first second is = first refl
marked_either false later there first second is = second is

all_marked : (signs : List Keyword) (table : List Bool) (keyword : Keyword) → is_among keyword signs ≡ true → is_marked (fold marked table signs) keyword ≡ true
all_marked [] table keyword is = absurd (false≢true is)
all_marked (sign ∷ signs) table keyword is =
    marked_either (sameb the_type sign keyword) (is_among keyword signs) (is_marked (fold marked (marked table sign) signs) keyword)
    (λ same. still_marked signs (marked table sign) keyword (ap (is_marked (marked table sign)) (sym (same_true the_type tt sign keyword same)) ∙ there table (place_of sign)))
    (all_marked signs (marked table sign) keyword)
    is

-- what isn't marked isn't there
unmarked_absent : (table : List Bool) (signs : List Keyword) → AreMarked table signs → (piece : Piece) → is_unmarked table piece ≡ true → is_absent signs piece ≡ true
unmarked_absent table signs are (Letter class) is = is
unmarked_absent table signs are (Word keyword) is =
    let Goal : Bool → Type 0 = λ among. (among ≡ true → is_marked table keyword ≡ true) → not among ≡ true
    in (elim (is_among keyword signs) as Goal [
      | true ↦ λ mark. ap not (sym (mark refl)) ∙ is
      | false ↦ λ mark. refl
    ]) (are keyword)

pub or_either : (a b c d : Bool) → (a ≡ true → c ≡ true) → (b ≡ true → d ≡ true) → (a || b) ≡ true → (c || d) ≡ true
or_either true b c d one two is = rw (one refl) refl
or_either false b c d one two is = rw (two is) (or-true c)

absent_any : (table : List Bool) (signs : List Keyword) → AreMarked table signs → (pieces : List Piece) → list_any (is_unmarked table) pieces ≡ true → list_any (is_absent signs) pieces ≡ true
absent_any table signs are [] is = is
absent_any table signs are (piece ∷ pieces) is =
    or_either (is_unmarked table piece) (list_any (is_unmarked table) pieces) (is_absent signs piece) (list_any (is_absent signs) pieces)
    (unmarked_absent table signs are piece) (absent_any table signs are pieces) is

pub unmarked_fits : (pieces : List Piece) (tokens : List Token) (table : List Bool) → table ≡ table_of tokens → list_any (is_unmarked table) pieces ≡ true → first_fit pieces tokens ≡ None
unmarked_fits pieces tokens table same is =
    absent_fits pieces tokens (signs_of tokens) refl
    (absent_any table (signs_of tokens) (λ keyword among. ap (λ t. is_marked t keyword) same ∙ all_marked (signs_of tokens) no_marks keyword among) pieces is)
