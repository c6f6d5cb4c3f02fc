use Rattle.std.proofs.Common.{◌≡◌, ◌++◌, length}
use Rattle.std.specs.Prelude.{map}
use Rattle.command_grammar.specs.Lines.{line_meant}
use Rattle.story_format.specs.Making.{line_entry}
use Rattle.story_format.proofs.grammar_making.add_entries.Given as goal

abbrev pub invariant-loop-rest : goal.invariant-loop-rest
invariant-loop-rest l = l.entries.items ++ map (line_entry l.strings) (map line_meant l.rest) ≡ l.initial.entries.items ++ map (line_entry l.strings) (map line_meant l.lines)

abbrev pub decreases-loop-rest : goal.decreases-loop-rest
decreases-loop-rest l = length l.rest
