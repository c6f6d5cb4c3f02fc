use Rattle.std.proofs.Common.{◌≡◌, ◌++◌, length}
use Rattle.std.specs.Prelude.{map}
use Rattle.play_meaning.specs.StandardGrammar.{standard_lines}
use Rattle.command_grammar.specs.Lines.{line_meant, line_of}
use Rattle.command_grammar.proofs.standard_grammar.standard_lines.Given as goal

abbrev pub invariant-loop-rest : goal.invariant-loop-rest
invariant-loop-rest l = map line_meant l.all.items ++ map (λ row. line_of row.0 row.1.now) l.rest ≡ standard_lines

abbrev pub decreases-loop-rest : goal.decreases-loop-rest
decreases-loop-rest l = length l.rest
