-- What it is for pieces to be the cut of tokens.
use Rattle.std.specs.Prelude.{◌≡◌, Bool, true, false, ◌||◌, List, [], ◌∷◌, ◌++◌}
use Rattle.std.specs.List.{All}
use Rattle.i7_lexer.specs.declared.token.Token.{Token}

-- the tokens of pieces, one piece behind the other
abbrev pub tokens_in : List (List Token) → List Token
tokens_in [] = []
tokens_in (piece ∷ pieces) = piece ++ tokens_in pieces

-- these tokens, behind one at which their piece is open or not, belong to the piece
abbrev pub GoesOn : (Token → Bool) → (Bool → Token → Token → Bool) → Bool → Token → List Token → Type 0
GoesOn opens same is_open token [] = Unit {0}
GoesOn opens same is_open token (next ∷ more) = (same is_open token next ≡ true) × GoesOn opens same (is_open || opens next) next more

-- a piece has a token, and each two neighbours in it belong to the same piece
abbrev pub IsPiece : (Token → Bool) → (Bool → Token → Token → Bool) → List Token → Type 0
IsPiece opens same [] = ⊥
IsPiece opens same (token ∷ more) = GoesOn opens same (opens token) token more

-- these tokens, behind one at which their piece is open or not, end it: the first of the pieces behind doesn't belong to it
abbrev pub IsSeam : (Token → Bool) → (Bool → Token → Token → Bool) → Bool → Token → List Token → List (List Token) → Type 0
IsSeam opens same is_open token (next ∷ more) pieces = IsSeam opens same (is_open || opens next) next more pieces
IsSeam opens same is_open token [] [] = Unit {0}
IsSeam opens same is_open token [] ([] ∷ pieces) = ⊥
IsSeam opens same is_open token [] ((first ∷ rest) ∷ pieces) = same is_open token first ≡ false

abbrev pub AreParted : (Token → Bool) → (Bool → Token → Token → Bool) → List (List Token) → Type 0
AreParted opens same [] = Unit {0}
AreParted opens same ([] ∷ pieces) = ⊥
AreParted opens same ((token ∷ more) ∷ pieces) = IsSeam opens same (opens token) token more pieces × AreParted opens same pieces

-- Joined, the pieces are the tokens; they are cut between two neighbours that don't belong to the same piece, and nowhere else.
pub record IsCut (opens : Token → Bool) (same : Bool → Token → Token → Bool) (tokens : List Token) (pieces : List (List Token)) : Type 0 where
  pub joined : tokens_in pieces ≡ tokens
  pub whole : All (IsPiece opens same) pieces
  pub parted : AreParted opens same pieces

-- no other pieces are the cut
abbrev pub IsOnlyCut : (Token → Bool) → (Bool → Token → Token → Bool) → List Token → List (List Token) → Type 0
IsOnlyCut opens same tokens pieces = (others : List (List Token)) → IsCut opens same tokens others → others ≡ pieces
