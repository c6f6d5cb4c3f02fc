-- Cutting gives the one cut of tokens.
use Rattle.std.proofs.Common.{◌≡◌, Bool, true, false, ◌||◌, List, [], ◌∷◌, ◌++◌, refl, ap, sym, ◌∙◌, subst}
use Rattle.std.specs.List.{All, onto_first}
use Rattle.std.proofs.lemmas.List.Elements.{All-nil, All-cons, All-head, All-tail}
use Rattle.i7_lexer.specs.declared.token.Token.{Token}
use Rattle.i7_sentences.specs.Cuts.{cut, cut_from}
use Rattle.i7_sentences.specs.Seams.{AreParted, GoesOn, IsCut, IsPiece, IsSeam, tokens_in}

joined_same : (opens : Token → Bool) (same : Bool → Token → Token → Bool) (is_open : Bool) (token next : Token) (rest : List Token)
    → same is_open token next ≡ true
    → cut_from opens same is_open token (next ∷ rest) ≡ onto_first token (cut_from opens same (is_open || opens next) next rest)
joined_same opens same is_open token next rest is = rw is refl

parted_other : (opens : Token → Bool) (same : Bool → Token → Token → Bool) (is_open : Bool) (token next : Token) (rest : List Token)
    → same is_open token next ≡ false → cut_from opens same is_open token (next ∷ rest) ≡ (token ∷ []) ∷ cut_from opens same (opens next) next rest
parted_other opens same is_open token next rest is = rw is refl

-- the first piece from a token on, and the pieces behind it
record IsFrom (opens : Token → Bool) (same : Bool → Token → Token → Bool) (is_open : Bool) (token : Token) (tokens : List Token) (pieces : List (List Token)) : Type 0 where
  more : List Token
  behind : List (List Token)
  place : pieces ≡ (token ∷ more) ∷ behind
  joined : more ++ tokens_in behind ≡ tokens
  goes_on : GoesOn opens same is_open token more
  seam : IsSeam opens same is_open token more behind
  whole : All (IsPiece opens same) behind
  parted : AreParted opens same behind

is_from : (opens : Token → Bool) (same : Bool → Token → Token → Bool) (is_open : Bool) (token : Token) (tokens : List Token)
    → IsFrom opens same is_open token tokens (cut_from opens same is_open token tokens)
is_from opens same is_open token [] = record { more = []; behind = []; place = refl; joined = refl; goes_on = tt; seam = tt; whole = All-nil (IsPiece opens same); parted = tt }
is_from opens same is_open token (next ∷ rest) =
    let Goal : Bool → Type 0 = λ joins. same is_open token next ≡ joins → IsFrom opens same is_open token (next ∷ rest) (cut_from opens same is_open token (next ∷ rest))
    in elim (same is_open token next) as Goal [
      | true ↦ λ joins.
          let later = is_from opens same (is_open || opens next) next rest in
          record {
            more = next ∷ later.more;
            behind = later.behind;
            place = joined_same opens same is_open token next rest joins ∙ ap (onto_first token) later.place;
            joined = ap (λ ts. next ∷ ts) later.joined;
            goes_on = (joins, later.goes_on);
            seam = later.seam;
            whole = later.whole;
            parted = later.parted;
          }
      | false ↦ λ parts.
          let later = is_from opens same (opens next) next rest in
          record {
            more = [];
            behind = (next ∷ later.more) ∷ later.behind;
            place = parted_other opens same is_open token next rest parts ∙ ap (λ ps. (token ∷ []) ∷ ps) later.place;
            joined = ap (λ ts. next ∷ ts) later.joined;
            goes_on = tt;
            seam = parts;
            whole = All-cons (IsPiece opens same) (next ∷ later.more) later.behind later.goes_on later.whole;
            parted = (later.seam, later.parted);
          }
    ] refl

pub is_cut : (opens : Token → Bool) (same : Bool → Token → Token → Bool) (tokens : List Token) → IsCut opens same tokens (cut opens same tokens)
is_cut opens same [] = record { joined = refl; whole = All-nil (IsPiece opens same); parted = tt }
is_cut opens same (token ∷ tokens) =
    let first = is_from opens same (opens token) token tokens in
    let made : IsCut opens same (token ∷ tokens) ((token ∷ first.more) ∷ first.behind) = record {
      joined = ap (λ ts. token ∷ ts) first.joined;
      whole = All-cons (IsPiece opens same) (token ∷ first.more) first.behind first.goes_on first.whole;
      parted = (first.seam, first.parted);
    } in
    subst (λ pieces. IsCut opens same (token ∷ tokens) pieces) (sym first.place) made

-- a piece in front of a cut, with a seam between them
cut_again : (opens : Token → Bool) (same : Bool → Token → Token → Bool) (is_open : Bool) (token : Token) (more : List Token) (pieces : List (List Token))
    → cut opens same (tokens_in pieces) ≡ pieces → GoesOn opens same is_open token more → IsSeam opens same is_open token more pieces
    → cut_from opens same is_open token (more ++ tokens_in pieces) ≡ (token ∷ more) ∷ pieces
cut_again opens same is_open token [] [] is goes_on seam = refl
cut_again opens same is_open token [] ([] ∷ pieces) is goes_on seam = absurd seam
cut_again opens same is_open token [] ((first ∷ rest) ∷ pieces) is goes_on seam =
    parted_other opens same is_open token first (rest ++ tokens_in pieces) seam ∙ ap (λ ps. (token ∷ []) ∷ ps) is
cut_again opens same is_open token (next ∷ more) pieces is goes_on seam =
    joined_same opens same is_open token next (more ++ tokens_in pieces) goes_on.0
    ∙ ap (onto_first token) (cut_again opens same (is_open || opens next) next more pieces is goes_on.1 seam)

recut : (opens : Token → Bool) (same : Bool → Token → Token → Bool) (pieces : List (List Token)) → All (IsPiece opens same) pieces → AreParted opens same pieces
    → cut opens same (tokens_in pieces) ≡ pieces
recut opens same [] whole parted = refl
recut opens same ([] ∷ pieces) whole parted = absurd parted
recut opens same ((token ∷ more) ∷ pieces) whole parted =
    cut_again opens same (opens token) token more pieces
    (recut opens same pieces (All-tail (IsPiece opens same) (token ∷ more) pieces whole) parted.1)
    (All-head (IsPiece opens same) (token ∷ more) pieces whole) parted.0

pub one_cut : (opens : Token → Bool) (same : Bool → Token → Token → Bool) (tokens : List Token) (pieces : List (List Token)) → IsCut opens same tokens pieces → pieces ≡ cut opens same tokens
one_cut opens same tokens pieces is = sym (recut opens same pieces is.whole is.parted) ∙ ap (cut opens same) is.joined
