-- Lines of the grammar and their tokens, as they are lent and as they are kept.
use Rattle.std.specs.Prelude.{ℕ, List, [], map}
use Rattle.play_meaning.specs.Grammar.{Direction, Line, Something, Token, Word}
use Rattle.command_grammar.specs.declared.line.GrammarLine.{GrammarLine}
use Rattle.command_grammar.specs.declared.line.KeptToken.{KeptToken}
use Rattle.command_grammar.specs.declared.line.KeptToken.TheVariants as kept
use Rattle.command_grammar.specs.declared.token.Token.{Token as Lent}
use Rattle.command_grammar.specs.declared.token.Token.TheVariants as lent

abbrev pub told_token : Lent → Token
told_token (lent.Word spelling) = Word spelling.now
told_token lent.Something = Something
told_token lent.Direction = Direction

-- a line of these tokens
abbrev pub line_of : ℕ → List Lent → Line
line_of action tokens = record { action = action; tokens = map told_token tokens }

-- what a number that no line has stands for
abbrev pub no_line : Line
no_line = record { action = 255; tokens = [] }

abbrev pub token_meant : KeptToken → Token
token_meant (kept.Word spelling) = Word spelling
token_meant kept.Something = Something
token_meant kept.Direction = Direction

abbrev pub line_meant : GrammarLine → Line
line_meant line = record { action = line.action; tokens = map token_meant line.tokens }
