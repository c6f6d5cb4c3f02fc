-- The tokens that a source spells.
use Rattle.std.specs.Prelude.{◌≡◌, ℕ, List}
use Rattle.i7_lexer.specs.declared.placed.Placed.{Placed}
use Rattle.i7_lexer.specs.declared.token.Token.{Token}
use Rattle.i7_lexer.specs.Sources.{text_of}
use Rattle.i7_lexer.specs.Cuts.{IsPlaced}
use Rattle.i7_lexer.specs.Indents.{AreIndented}
use Rattle.i7_lexer.specs.Tokens.{tokens_of}
use Rattle.i7_lexer.specs.Refusals.{IsReadable}

-- a source spells these tokens, and nothing in it is refused
pub record HasTokens (source : List ℕ) (tokens : List Token) : Type 0 where
  pub readable : IsReadable source
  pub placed : List Placed
  pub parts : IsPlaced (text_of source) placed
  pub indented : AreIndented placed
  pub tokens_are : tokens ≡ tokens_of placed
