use Rattle.std.proofs.Common.{◌≡◌, ◌++◌, length}
use Rattle.i7_lexer.specs.Tokens.{tokens_of}
use Rattle.i7_lexer.proofs.joins.tokens_of.Given as goal

abbrev pub invariant-loop-first : goal.invariant-loop-first
invariant-loop-first l = l.tokens.items ++ tokens_of l.rest ≡ tokens_of l.placed

abbrev pub decreases-loop-first : goal.decreases-loop-first
decreases-loop-first l = length l.rest
