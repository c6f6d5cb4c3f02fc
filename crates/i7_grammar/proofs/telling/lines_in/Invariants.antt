use Rattle.std.proofs.Common.{◌≡◌, ◌++◌, length}
use Rattle.std.specs.Prelude.{map}
use Rattle.command_grammar.specs.Lines.{line_meant}
use Rattle.i7_grammar.specs.Grammars.{lines_in}
use Rattle.i7_grammar.specs.Understood.{all_lent}
use Rattle.i7_grammar.proofs.telling.lines_in.Given as goal

abbrev pub invariant-loop-rest : goal.invariant-loop-rest
invariant-loop-rest l = map line_meant l.lines.items ++ lines_in (all_lent l.rest) ≡ lines_in (all_lent l.all)

abbrev pub decreases-loop-rest : goal.decreases-loop-rest
decreases-loop-rest l = length l.rest
