-- The tokens of a grammar's lines, by the lines' numbers.
use Rattle.std.specs.Prelude.{◌≡◌, ℕ, List, ◌∷◌, drop, slice_index_or}
use Rattle.command_grammar.specs.Lines.{no_line}
use Rattle.play_meaning.specs.Grammar.{Grammar, Line, Token}

abbrev pub line_at : Grammar → ℕ → Line
line_at g line = slice_index_or g.lines line no_line

-- the tokens of a line from a place on
abbrev pub tokens_from : Grammar → ℕ → ℕ → List Token
tokens_from g line place = drop place (line_at g line).tokens

-- the next one is this, and behind it is this place
abbrev pub IsNext : Grammar → ℕ → ℕ → Token → ℕ → Type 0
IsNext g line place token after = tokens_from g line place ≡ token ∷ tokens_from g line after
