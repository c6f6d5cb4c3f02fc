use Rattle.std.proofs.Common.{◌≡◌, ◌++◌, length}
use Rattle.std.specs.Prelude.{map}
use Rattle.command_grammar.specs.Lines.{token_meant}
use Rattle.story_format.specs.Making.{token_number}
use Rattle.story_format.proofs.grammar_making.token_numbers.Given as goal

abbrev pub invariant-loop-rest : goal.invariant-loop-rest
invariant-loop-rest l = l.numbers.items ++ map (token_number l.strings) (map token_meant l.rest) ≡ map (token_number l.strings) (map token_meant l.tokens)

abbrev pub decreases-loop-rest : goal.decreases-loop-rest
decreases-loop-rest l = length l.rest
