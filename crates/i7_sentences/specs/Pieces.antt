-- How many tokens the first piece of a cut has, from left to right; and parts as contracts see them.
use Rattle.std.specs.Prelude.{ℕ, ◌+◌, Bool, false, ◌||◌, List, [], ◌∷◌, map, if◌then◌else◌}
use Rattle.i7_lexer.specs.declared.token.Token.{Token}
use Rattle.i7_sentences.specs.Cuts.{Piece}
use Rattle.i7_sentences.specs.declared.part.Part.{Part}

-- how many tokens of its piece stand behind a token, at which it is open or not
abbrev pub more_len : (Token → Bool) → (Bool → Token → Token → Bool) → Bool → Token → List Token → ℕ
more_len opens same is_open token [] = 0
more_len opens same is_open token (next ∷ rest) = if same is_open token next then 1 + more_len opens same (is_open || opens next) next rest else 0

-- how many tokens the first piece has, where it is open already or not
abbrev pub left_len : (Token → Bool) → (Bool → Token → Token → Bool) → Bool → List Token → ℕ
left_len opens same is_open [] = 0
left_len opens same is_open (token ∷ tokens) = 1 + more_len opens same (is_open || opens token) token tokens

abbrev pub piece_len : (Token → Bool) → (Bool → Token → Token → Bool) → List Token → ℕ
piece_len opens same tokens = left_len opens same false tokens

abbrev pub piece_of : Part → Piece
piece_of part = record { kind = part.kind; tokens = part.tokens.now }

abbrev pub pieces_of : List Part → List Piece
pieces_of parts = map piece_of parts
