use Rattle.std.proofs.Common.{◌≡◌, ◌++◌, length}
use Rattle.std.specs.Prelude.{map}
use Rattle.command_grammar.specs.Lines.{line_meant}
use Rattle.i7_grammar.specs.Grammars.{line_by}
use Rattle.i7_grammar.proofs.telling.add_each.Given as goal

abbrev pub invariant-loop-rest : goal.invariant-loop-rest
invariant-loop-rest l = map line_meant l.lines.items ++ map (line_by l.action) l.rest ≡ map line_meant l.initial.lines.items ++ map (line_by l.action) l.texts

abbrev pub decreases-loop-rest : goal.decreases-loop-rest
decreases-loop-rest l = length l.rest
