-- The lexemes of a source, and what of them is kept.
use Rattle.std.specs.Prelude.{◌≡◌, ℕ, List, []}
use Rattle.i7_lexer.specs.declared.lexeme.Lexeme.{Lexeme}
use Rattle.i7_lexer.specs.declared.placed.Placed.{Placed}
use Rattle.i7_lexer.specs.Lexemes.{IsCut, IsUnclosed}
use Rattle.i7_lexer.specs.Places.{at_front, after_all, placed_from}

-- these are the words, texts and marks of a text, each with its place
pub record IsPlaced (text : List ℕ) (placed : List Placed) : Type 0 where
  pub lexemes : List Lexeme
  pub cut : IsCut lexemes text []
  pub placed_is : placed ≡ placed_from at_front lexemes

-- behind some lexemes of a text, on that line, a text or a comment opens that has no end
pub record IsUnclosedIn (text : List ℕ) (line : ℕ) : Type 0 where
  pub lexemes : List Lexeme
  pub rest : List ℕ
  pub cut : IsCut lexemes text rest
  pub unclosed : IsUnclosed rest
  pub line_is : line ≡ (after_all at_front lexemes).line
