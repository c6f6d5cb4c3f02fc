-- Where the tokens of a source stand.
use Rattle.std.specs.Prelude.{ℕ, ◌+◌, ◌==◌, if◌then◌else◌, List, [], ◌∷◌}
use Rattle.std.specs.List.{prefix_len}
use Rattle.i7_lexer.specs.declared.cursor.Cursor.{Cursor}
use Rattle.i7_lexer.specs.declared.token.Start.{Start}
use Rattle.i7_lexer.specs.declared.token.Start.TheVariants.{Paragraph, Line, Within, Across}
use Rattle.i7_lexer.specs.declared.lexeme.Lexeme.{Lexeme}
use Rattle.i7_lexer.specs.declared.lexeme.Lexeme.TheVariants.{Kept, Space, Comment}
use Rattle.i7_lexer.specs.declared.lexeme.Piece.TheVariants.{Word, Text, Mark}
use Rattle.i7_lexer.specs.declared.placed.Placed.{Placed}
use Rattle.i7_lexer.specs.Bytes.{newlines}

-- the front of a source
abbrev pub at_front : Cursor
at_front = record { line = 1; start = Paragraph }

-- how many line breaks a lexeme holds
abbrev pub breaks_of : Lexeme → ℕ
breaks_of (Kept (Word bytes)) = 0
breaks_of (Kept (Text bytes)) = newlines bytes
breaks_of (Kept (Mark b)) = 0
breaks_of (Space bytes) = newlines bytes
breaks_of (Comment bytes) = newlines bytes

-- what stands behind the first line break
abbrev pub behind_break : List ℕ → List ℕ
behind_break [] = []
behind_break (b ∷ bytes) = if b == 10 then bytes else behind_break bytes

-- how many tabs stand right behind the first line break
abbrev pub indent_of : List ℕ → ℕ
indent_of space = prefix_len (λ b. b == 9) (behind_break space)

-- a line begins behind one line break, a paragraph's first token stays so
abbrev pub line_start : Start → ℕ → Start
line_start Paragraph tabs = Paragraph
line_start (Line _) tabs = Line tabs
line_start Within tabs = Line tabs
line_start Across tabs = Line tabs

-- how a token stands behind white space: two line breaks make a blank line
unfoldable pub start_behind : Start → List ℕ → Start
start_behind start space = if newlines space == 0 then start else (if newlines space == 1 then line_start start (indent_of space) else Paragraph)

abbrev pub start_after : Start → Lexeme → Start
start_after start (Kept _) = Within
start_after start (Space space) = start_behind start space
start_after start (Comment _) = start

-- the place behind a lexeme
abbrev pub after : Cursor → Lexeme → Cursor
after at l = record { line = at.line + breaks_of l; start = start_after at.start l }

-- the tokens among the lexemes from a place on, each with the place before it
abbrev pub placed_from : Cursor → List Lexeme → List Placed
placed_from at [] = []
placed_from at (Kept piece ∷ ls) = record { piece = piece; at = at } ∷ placed_from (after at (Kept piece)) ls
placed_from at (Space bytes ∷ ls) = placed_from (after at (Space bytes)) ls
placed_from at (Comment bytes ∷ ls) = placed_from (after at (Comment bytes)) ls

-- the place behind all of these lexemes
abbrev pub after_all : Cursor → List Lexeme → Cursor
after_all at [] = at
after_all at (l ∷ ls) = after_all (after at l) ls
