-- How deep a line may be.
use Rattle.std.specs.Prelude.{◌≡◌, ℕ, ◌+◌, Bool, true, false, ◌==◌, nat_lt, if◌then◌else◌, List, ◌∷◌, ◌++◌, fold, Option, Some, None}
use Rattle.i7_lexer.specs.declared.indents.LineBefore.{LineBefore}
use Rattle.i7_lexer.specs.declared.token.Start.{Start}
use Rattle.i7_lexer.specs.declared.token.Start.TheVariants.{Paragraph, Line, Within, Across}
use Rattle.i7_lexer.specs.declared.lexeme.Piece.{Piece}
use Rattle.i7_lexer.specs.declared.lexeme.Piece.TheVariants.{Word, Text, Mark}
use Rattle.i7_lexer.specs.declared.placed.Placed.{Placed}

abbrev pub is_colon : Piece → Bool
is_colon (Word _) = false
is_colon (Text _) = false
is_colon (Mark b) = b == 58

-- the indent of the line that a token stands on
abbrev pub indent_with : ℕ → Start → ℕ
indent_with indent Paragraph = 0
indent_with indent (Line tabs) = tabs
indent_with indent Within = indent
indent_with indent Across = indent

-- the line that a token stands on, as far as it is read
abbrev pub line_with : LineBefore → Placed → LineBefore
line_with before token = record { indent = indent_with before.indent token.at.start; colon = is_colon token.piece }

-- the line that ends with the last of these tokens
abbrev pub line_of : List Placed → LineBefore
line_of tokens = fold line_with (record { indent = 0; colon = false }) tokens

-- a line may be as deep as the line before, and one deeper behind a colon
abbrev pub forbids : LineBefore → Start → Bool
forbids before Paragraph = false
forbids before (Line tabs) = nat_lt (if before.colon then before.indent + 1 else before.indent) tabs
forbids before Within = false
forbids before Across = false

-- the first line that is too deep, one token later
abbrev pub deep_with : Option ℕ → LineBefore → Placed → Option ℕ
deep_with (Some line) before token = Some line
deep_with None before token = if forbids before token.at.start then Some token.at.line else None

-- no token begins a line that is too deep
abbrev pub AreIndented : List Placed → Type 0
AreIndented tokens = (before rest : List Placed) (token : Placed) → tokens ≡ before ++ token ∷ rest → forbids (line_of before) token.at.start ≡ false

-- the first line that is too deep
pub record IsTooDeep (tokens : List Placed) (line : ℕ) : Type 0 where
  pub before : List Placed
  pub token : Placed
  pub rest : List Placed
  pub parts : tokens ≡ before ++ token ∷ rest
  pub indented : AreIndented before
  pub deep : forbids (line_of before) token.at.start ≡ true
  pub line_is : line ≡ token.at.line
