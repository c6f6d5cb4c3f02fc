-- The first piece of a cut, and the rest of it.
use Rattle.std.proofs.Common.{◌≡◌, ◌<◌, ◌+◌, ℕ, Bool, true, false, ◌||◌, List, [], ◌∷◌, length, take, drop, refl, ap, arith}
use Rattle.std.specs.List.{onto_first}
use Rattle.std.proofs.lemmas.Grind.{common_steps}
use Rattle.i7_lexer.specs.declared.token.Token.{Token}
use Rattle.i7_sentences.specs.Cuts.{cut, cut_from}
use Rattle.i7_sentences.specs.Pieces.{piece_len, more_len}

pub one_taken : (n : ℕ) (token : Token) (tokens : List Token) → take (1 + n) (token ∷ tokens) ≡ token ∷ take n tokens
one_taken n token tokens = grind (arith, common_steps)

pub one_dropped : (n : ℕ) (token : Token) (tokens : List Token) → drop (1 + n) (token ∷ tokens) ≡ drop n tokens
one_dropped n token tokens = grind (arith, common_steps)

-- the pieces from a token on: what is left of its own, and the cut of the tokens behind it
Splits : (Token → Bool) → (Bool → Token → Token → Bool) → Bool → Token → List Token → Type 0
Splits opens same is_open token tokens =
    cut_from opens same is_open token tokens
    ≡ (token ∷ take (more_len opens same is_open token tokens) tokens) ∷ cut opens same (drop (more_len opens same is_open token tokens) tokens)

splits_onto : (opens : Token → Bool) (same : Bool → Token → Token → Bool) (is_open : Bool) (token next : Token) (rest : List Token)
    → same is_open token next ≡ true → Splits opens same (is_open || opens next) next rest → Splits opens same is_open token (next ∷ rest)
unfolding Splits
splits_onto opens same is_open token next rest joins later =
    let more = more_len opens same (is_open || opens next) next rest in
    rw (joins, one_taken more next rest, one_dropped more next rest) (ap (onto_first token) later)

splits_before : (opens : Token → Bool) (same : Bool → Token → Token → Bool) (is_open : Bool) (token next : Token) (rest : List Token)
    → same is_open token next ≡ false → Splits opens same is_open token (next ∷ rest)
unfolding Splits
splits_before opens same is_open token next rest parts = rw parts refl

splits : (opens : Token → Bool) (same : Bool → Token → Token → Bool) (is_open : Bool) (token : Token) (tokens : List Token) → Splits opens same is_open token tokens
unfolding Splits
splits opens same is_open token [] = refl
splits opens same is_open token (next ∷ rest) =
    let Goal : Bool → Type 0 = λ joins. same is_open token next ≡ joins → Splits opens same is_open token (next ∷ rest)
    in elim (same is_open token next) as Goal [
      | true ↦ λ joins. splits_onto opens same is_open token next rest joins (splits opens same (is_open || opens next) next rest)
      | false ↦ λ parts. splits_before opens same is_open token next rest parts
    ] refl

pub cut_piece : (opens : Token → Bool) (same : Bool → Token → Token → Bool) (tokens : List Token) → 0 < length tokens
    → cut opens same tokens ≡ take (piece_len opens same tokens) tokens ∷ cut opens same (drop (piece_len opens same tokens) tokens)
unfolding Splits
cut_piece opens same [] h = absurd (omega (arith, h))
cut_piece opens same (token ∷ tokens) h =
    let more = more_len opens same (opens token) token tokens in
    rw (one_taken more token tokens, one_dropped more token tokens) (splits opens same (opens token) token tokens)

pub piece_len-positive : (opens : Token → Bool) (same : Bool → Token → Token → Bool) (tokens : List Token) → 0 < length tokens → 0 < piece_len opens same tokens
piece_len-positive opens same [] h = absurd (omega (arith, h))
piece_len-positive opens same (token ∷ tokens) h = omega arith

pub ruleset cut_steps = (cut_piece, piece_len-positive)
