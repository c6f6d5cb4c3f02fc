use Rattle.std.proofs.Common.{◌≡◌, ◌++◌, length}
use Rattle.std.specs.Prelude.{map}
use Rattle.command_grammar.specs.Lines.{told_token, token_meant}
use Rattle.command_grammar.proofs.standard_grammar.line_of.Given as goal

abbrev pub invariant-loop-rest : goal.invariant-loop-rest
invariant-loop-rest l = map token_meant l.all.items ++ map told_token l.rest ≡ map told_token l.tokens

abbrev pub decreases-loop-rest : goal.decreases-loop-rest
decreases-loop-rest l = length l.rest
