use Rattle.std.proofs.Common.{◌≡◌, length}
use Rattle.std.specs.Prelude.{fold, map}
use Rattle.std.specs.List.{flat_map}
use Rattle.command_grammar.specs.Lines.{line_meant}
use Rattle.object_words.specs.Mentions.{mention}
use Rattle.story_format.specs.Making.{line_strings}
use Rattle.story_format.proofs.grammar_making.mention_lines.Given as goal

abbrev pub invariant-loop-rest : goal.invariant-loop-rest
invariant-loop-rest l = fold mention l.strings (flat_map line_strings (map line_meant l.rest)) ≡ fold mention l.initial.strings (flat_map line_strings (map line_meant l.lines))

abbrev pub decreases-loop-rest : goal.decreases-loop-rest
decreases-loop-rest l = length l.rest
