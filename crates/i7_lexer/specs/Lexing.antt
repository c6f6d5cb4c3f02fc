-- The lexemes of bytes, read from left to right.
use Rattle.std.specs.Prelude.{ℕ, zero, suc, List, [], ◌∷◌, length, Option, Some, None}
use Rattle.i7_lexer.specs.declared.cursor.Cursor.{Cursor}
use Rattle.i7_lexer.specs.declared.lexeme.Lexeme.{Lexeme}
use Rattle.i7_lexer.specs.declared.placed.Placed.{Placed}
use Rattle.i7_lexer.specs.Places.{placed_from}
use Rattle.i7_lexer.specs.Scans.{next_of}

-- the first lexeme, and those that the bytes behind it have
abbrev pub lexemes_with : (List ℕ → List Lexeme) → Option (Lexeme × List ℕ) → List Lexeme
lexemes_with lexemes None = []
lexemes_with lexemes (Some (l, after)) = l ∷ lexemes after

-- at most so many lexemes, up to a text or a comment that has no end
abbrev pub lexemes_within : ℕ → List ℕ → List Lexeme
lexemes_within zero bytes = []
lexemes_within (suc n) bytes = lexemes_with (lexemes_within n) (next_of bytes)

-- the tokens among the lexemes of the bytes from a place on, each with the place before it
abbrev pub placed_in : Cursor → List ℕ → List Placed
placed_in at bytes = placed_from at (lexemes_within (length bytes) bytes)
