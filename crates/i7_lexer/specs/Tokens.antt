-- The tokens of a source.
use Rattle.std.specs.Prelude.{ℕ, zero, suc, Bool, true, false, ◌&&◌, ◌||◌, if◌then◌else◌, List, [], ◌∷◌, ◌++◌, fold, take, codes}
use Rattle.std.specs.List.{flat_map}
use Rattle.std.specs.Str.{str_eq_ignore_ascii_case}
use Rattle.i7_lexer.specs.declared.lexeme.Piece.{Piece}
use Rattle.i7_lexer.specs.declared.lexeme.Piece.TheVariants.{Word, Text, Mark}
use Rattle.i7_lexer.specs.declared.placed.Placed.{Placed}
use Rattle.i7_lexer.specs.declared.token.Start.{Start}
use Rattle.i7_lexer.specs.declared.token.Start.TheVariants.{Paragraph, Line, Within, Across}
use Rattle.i7_lexer.specs.declared.token.Token.{Token}
use Rattle.i7_lexer.specs.declared.token.TokenKind.{TokenKind}
use Rattle.i7_lexer.specs.declared.token.TokenKind.TheVariants.{Word as WordToken, Text as TextToken, Mark as MarkToken}
use Rattle.i7_lexer.specs.Texts.{folded}

-- the piece is this word, in either case
abbrev pub says : List ℕ → Piece → Bool
says word (Word bytes) = str_eq_ignore_ascii_case bytes word
says word (Text _) = false
says word (Mark _) = false

-- a token that doesn't begin its paragraph
abbrev pub goes_on : Start → Bool
goes_on Paragraph = false
goes_on (Line indent) = true
goes_on Within = true
goes_on Across = true

-- the token is this word, and no blank line parts it from the one before; comments part nothing
abbrev pub continues : List ℕ → Placed → Bool
continues word token = goes_on token.at.start && says word token.piece

unfoldable pub is_switched : Placed → Placed → Bool
is_switched a b = says (codes "switched") a.piece && (continues (codes "on") b || continues (codes "off") b)

unfoldable pub is_fixed_in_place : Placed → Placed → Placed → Bool
is_fixed_in_place a b c = says (codes "fixed") a.piece && continues (codes "in") b && continues (codes "place") c

-- how many of the tokens behind the first are one word with it
abbrev pub joined_len : Placed → List Placed → ℕ
joined_len a [] = 0
joined_len a (b ∷ []) = if is_switched a b then 1 else 0
joined_len a (b ∷ c ∷ rest) = if is_switched a b then 1 else (if is_fixed_in_place a b c then 2 else 0)

-- a space and the word
abbrev pub spaced : Piece → List ℕ
spaced (Word bytes) = 32 ∷ bytes
spaced (Text _) = []
spaced (Mark _) = []

-- what the token of a piece is, where others are one word with it
abbrev pub kind_of : Piece → List Placed → TokenKind
kind_of (Word bytes) others = WordToken (bytes ++ flat_map (λ other. spaced other.piece) others)
kind_of (Text bytes) others = TextToken (folded bytes)
kind_of (Mark b) others = MarkToken b

-- a word that begins within its line and goes over a line break
abbrev pub over_break : Start → Start
over_break Paragraph = Paragraph
over_break (Line indent) = Line indent
over_break Within = Across
over_break Across = Across

-- how a word stands that begins so, with one more of its words: one that begins a line takes it over a line break
abbrev pub with_other : Start → Start → Start
with_other start Paragraph = start
with_other start (Line indent) = over_break start
with_other start Within = start
with_other start Across = start

-- how a word stands that begins so and has these other words
abbrev pub start_of : Start → List Placed → Start
start_of start others = fold (λ so_far other. with_other so_far other.at.start) start others

-- the first token, and the others that are one word with it
abbrev pub token_of : Placed → List Placed → Token
token_of first others = record { kind = kind_of first.piece others; line = first.at.line; start = start_of first.at.start others }

-- the tokens, where so many in front belong to the word before
abbrev pub tokens_behind : ℕ → List Placed → List Token
tokens_behind skipped [] = []
tokens_behind zero (first ∷ rest) = token_of first (take (joined_len first rest) rest) ∷ tokens_behind (joined_len first rest) rest
tokens_behind (suc skipped) (first ∷ rest) = tokens_behind skipped rest

-- the tokens of placed lexemes
abbrev pub tokens_of : List Placed → List Token
tokens_of placed = tokens_behind 0 placed
