-- Fitting from left to right: each letter ends at the nearest place from which the pieces behind it
-- can fit. The places are told beforehand, from the words' end and from the last piece.
use Rattle.std.specs.Prelude.{not, ◌≡◌, ℕ, ◌-◌, Bool, true, false, ◌&&◌, ◌||◌, List, [], ◌∷◌, ◌++◌, length, map, take, drop, get_or, Option, Some, None, is_some, option_map, if◌then◌else◌}
use Rattle.std.specs.List.{list_any}
use Rattle.i7_lexer.specs.declared.token.Token.{Token}
use Rattle.i7_sentences.specs.Keywords.{is_among, is_sign}
use Rattle.i7_sentences.specs.Automata.{accepts, step}
use Rattle.i7_sentences.specs.Forms.{Variant, are_shorter}
use Rattle.i7_sentences.specs.declared.keyword.Keyword.{Keyword}
use Rattle.i7_sentences.specs.declared.class.Class.{Class}
use Rattle.i7_sentences.specs.declared.class.State.{State}
use Rattle.i7_sentences.specs.declared.class.State.TheVariants.{Start, Inside, Between, Beside}
use Rattle.i7_sentences.specs.declared.form.Piece.{Piece}
use Rattle.i7_sentences.specs.declared.form.Piece.TheVariants.{Word, Letter}
use Rattle.i7_sentences.specs.declared.lookahead.Ahead.{Ahead}

abbrev pub then_left : Option State → (State → Option ℕ) → Option ℕ
then_left None ends = None
then_left (Some state) ends = ends state

-- how many words are left behind a letter that is read so far: it ends as soon as it may and the
-- pieces behind it can fit the words left
abbrev pub nearest : Class → State → (List Token → Bool) → List Token → Option ℕ
nearest class state can [] = if accepts state && can [] then Some 0 else None
nearest class state can (token ∷ tokens) =
    if accepts state && can (token ∷ tokens) then Some (length (token ∷ tokens))
    else then_left (step class state token) (λ after. nearest class after can tokens)

-- how many words are left behind a word of the form
abbrev pub behind_word : Keyword → List Token → Option ℕ
behind_word keyword [] = None
behind_word keyword (token ∷ tokens) = if is_sign keyword token then Some (length tokens) else None

-- how many words are left behind a piece
abbrev pub left_by : Piece → (List Token → Bool) → List Token → Option ℕ
left_by (Word keyword) can tokens = behind_word keyword tokens
left_by (Letter class) can tokens = nearest class Start can tokens

abbrev pub is_kept : Piece → Bool
is_kept (Word keyword) = false
is_kept (Letter class) = true

abbrev pub with_taken : Bool → List Token → Option ℕ → (List Token → Option (List (List Token))) → Option (List (List Token))
with_taken is_kept tokens None next = None
with_taken is_kept tokens (Some left) next =
    if is_kept then option_map (λ letters. take (length tokens - left) tokens ∷ letters) (next (drop (length tokens - left) tokens))
    else next (drop (length tokens - left) tokens)

-- the words for the letters of these pieces, if they fit
abbrev pub first_fit : List Piece → List Token → Option (List (List Token))
first_fit [] [] = Some []
first_fit [] (token ∷ tokens) = None
first_fit (piece ∷ pieces) tokens = with_taken (is_kept piece) tokens (left_by piece (λ rest. is_some (first_fit pieces rest)) tokens) (first_fit pieces)

abbrev pub can_fit : List Piece → List Token → Bool
can_fit pieces tokens = is_some (first_fit pieces tokens)

-- whether the pieces can fit so many last words
abbrev pub column_of : List Piece → List Token → List Bool
column_of pieces [] = can_fit pieces [] ∷ []
column_of pieces (token ∷ tokens) = column_of pieces tokens ++ can_fit pieces (token ∷ tokens) ∷ []

-- a column's answer for so many words left
abbrev pub looked : List Bool → ℕ → Bool
looked column left = get_or column left false

-- the column in front of a word of the form
abbrev pub word_column : Keyword → List Bool → List Token → List Bool
word_column keyword behind [] = false ∷ []
word_column keyword behind (token ∷ tokens) = word_column keyword behind tokens ++ (is_sign keyword token && looked behind (length tokens)) ∷ []

abbrev pub ahead_at : Ahead → State → Bool
ahead_at ahead Start = ahead.start
ahead_at ahead Inside = ahead.inside
ahead_at ahead Between = ahead.between
ahead_at ahead Beside = ahead.beside

abbrev pub then_ahead : Ahead → Option State → Bool
then_ahead ahead None = false
then_ahead ahead (Some state) = ahead_at ahead state

abbrev pub reaches : Class → Ahead → Bool → Token → State → Bool
reaches class ahead can token state = (accepts state && can) || then_ahead ahead (step class state token)

-- whether a letter that is read so far can end in the words left
abbrev pub ahead_of_none : Bool → Ahead
ahead_of_none can = record {
  start = accepts Start && can;
  inside = accepts Inside && can;
  between = accepts Between && can;
  beside = accepts Beside && can;
}

abbrev pub ahead_of_more : Class → Ahead → Bool → Token → Ahead
ahead_of_more class ahead can token = record {
  start = reaches class ahead can token Start;
  inside = reaches class ahead can token Inside;
  between = reaches class ahead can token Between;
  beside = reaches class ahead can token Beside;
}

-- the same of a letter whose step is one from every state
abbrev pub ahead_of_run : Ahead → Bool → Option State → Ahead
ahead_of_run ahead can next = record {
  start = then_ahead ahead next;
  inside = can || then_ahead ahead next;
  between = then_ahead ahead next;
  beside = then_ahead ahead next;
}

-- the same of a letter that is one token
abbrev pub ahead_of_alone : Ahead → Bool → Option State → Ahead
ahead_of_alone ahead can next = record {
  start = then_ahead ahead next;
  inside = can || false;
  between = false;
  beside = false;
}

-- the same of names, whose steps at first and behind what parts two are one
abbrev pub ahead_of_names : Ahead → Bool → Option State → Option State → Ahead
ahead_of_names ahead can first later = record {
  start = then_ahead ahead first;
  inside = can || then_ahead ahead later;
  between = then_ahead ahead first;
  beside = false;
}

-- the same of a side, which goes on behind no word with which it may end
abbrev pub ahead_of_side : Ahead → Bool → Option State → Option State → Option State → Ahead
ahead_of_side ahead can first between beside = record {
  start = then_ahead ahead first;
  inside = can || false;
  between = then_ahead ahead between;
  beside = then_ahead ahead beside;
}

abbrev pub ahead_of : Class → List Bool → List Token → Ahead
ahead_of class behind [] = ahead_of_none (looked behind 0)
ahead_of class behind (token ∷ tokens) = ahead_of_more class (ahead_of class behind tokens) (looked behind (length (token ∷ tokens))) token

-- the column in front of a letter
abbrev pub letter_column : Class → List Bool → List Token → List Bool
letter_column class behind [] = (ahead_of class behind []).start ∷ []
letter_column class behind (token ∷ tokens) = letter_column class behind tokens ++ (ahead_of class behind (token ∷ tokens)).start ∷ []

abbrev pub piece_column : Piece → List Bool → List Token → List Bool
piece_column (Word keyword) behind tokens = word_column keyword behind tokens
piece_column (Letter class) behind tokens = letter_column class behind tokens

-- the column of no pieces: they fit no words alone
abbrev pub end_column : List Bool
end_column = true ∷ []

-- the column of these pieces, from that of the pieces behind the first
abbrev pub first_column : List Piece → List Token → List Bool
first_column [] tokens = end_column
first_column (piece ∷ pieces) tokens = piece_column piece (first_column pieces tokens) tokens

-- the columns of the pieces behind each piece
abbrev pub columns_of : List Piece → List Token → List (List Bool)
columns_of [] tokens = []
columns_of (piece ∷ pieces) tokens = columns_of pieces tokens ++ first_column pieces tokens ∷ []

-- a variant that fits, and the words for its letters
pub record Found : Type 0 where
  pub variant : Variant
  pub letters : List (List Token)

abbrev pub found_as : Variant → Option (List (List Token)) → Option Found
found_as variant letters = option_map (λ words. record { variant = variant; letters = words }) letters

-- the later one only if its letters are shorter
abbrev pub preferred : Option Found → Option Found → Option Found
preferred None later = later
preferred (Some first) None = Some first
preferred (Some first) (Some later) = if are_shorter later.letters first.letters then Some later else Some first

-- the fit with the shortest letters, of as short ones the first
abbrev pub best_fit : List Variant → List Token → Option Found
best_fit [] tokens = None
best_fit (variant ∷ variants) tokens = preferred (found_as variant (first_fit variant.pieces tokens)) (best_fit variants tokens)

-- rows of a table that tell variants of which the best fit is the same
abbrev pub FitAlike : {R : Type 0} → List R → List R → (R → Variant) → List Token → Type 0
FitAlike rows others variant_of tokens = best_fit (map variant_of rows) tokens ≡ best_fit (map variant_of others) tokens

abbrev pub or_later : Option Found → Option Found → Option Found
or_later None later = later
or_later (Some found) later = Some found

-- the best fit of the lowest form that fits
abbrev pub lowest_fit : List (List Variant) → List Token → Option Found
lowest_fit [] tokens = None
lowest_fit (variants ∷ forms) tokens = or_later (best_fit variants tokens) (lowest_fit forms tokens)

-- the words stand at the end of others
pub record IsEndOf (rest tokens : List Token) : Type 0 where
  pub front : List Token
  pub parts : tokens ≡ front ++ rest

-- the letters so far, and then those of these pieces, if they fit
abbrev pub letters_with : List (List Token) → List Piece → List Token → Option (List (List Token))
letters_with so_far pieces tokens = option_map (λ more. so_far ++ more) (first_fit pieces tokens)

-- the pieces fit no last words
abbrev pub Never : List Piece → List Token → Type 0
Never pieces tokens = (rest : List Token) → IsEndOf rest tokens → can_fit pieces rest ≡ false

-- whether the column of these pieces, or of the last ones of them, is without a yes
abbrev pub is_never : List Piece → List Token → Bool
is_never [] tokens = false
is_never (piece ∷ pieces) tokens = is_never pieces tokens || not (list_any (λ yes. yes) (first_column (piece ∷ pieces) tokens))

-- whether the piece can begin with this token
abbrev pub can_take : Piece → Token → Bool
can_take (Word keyword) token = is_sign keyword token
can_take (Letter class) token = is_some (step class Start token)

-- whether the piece can begin with none of the words
abbrev pub is_missing : List Token → Piece → Bool
is_missing tokens piece = not (list_any (can_take piece) tokens)

-- whether the piece is a word or mark of the form's own that isn't one of these
abbrev pub is_absent : List Keyword → Piece → Bool
is_absent signs (Word keyword) = not (is_among keyword signs)
is_absent signs (Letter class) = false

-- whether the first piece can take the first token, if there are both
abbrev pub can_begin : List Piece → List Token → Bool
can_begin [] tokens = true
can_begin (piece ∷ pieces) [] = false
can_begin (piece ∷ pieces) (token ∷ tokens) = can_take piece token
