use Rattle.std.proofs.Common.{◌≡◌, ◌+◌, ◌<◌, ◌^◌, length}
use Rattle.i7_lexer.specs.Lexing.{placed_in}
use Rattle.i7_lexer.proofs.placed.Places.first.Given as goal

abbrev pub invariant-loop-lexeme : goal.invariant-loop-lexeme
invariant-loop-lexeme l = (placed_in l.at l.rest ≡ l.self) × (l.at.line + length l.rest < 2 ^ 32)

abbrev pub decreases-loop-lexeme : goal.decreases-loop-lexeme
decreases-loop-lexeme l = length l.rest
