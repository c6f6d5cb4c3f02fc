use Rattle.std.proofs.Common.{◌≡◌, length}
use Rattle.std.specs.Prelude.{fold, map}
use Rattle.std.specs.List.{flat_map}
use Rattle.command_grammar.specs.Lines.{token_meant}
use Rattle.object_words.specs.Mentions.{mention}
use Rattle.story_format.specs.Making.{token_strings}
use Rattle.story_format.proofs.grammar_making.mention_line.Given as goal

abbrev pub invariant-loop-rest : goal.invariant-loop-rest
invariant-loop-rest l = fold mention l.strings (flat_map token_strings (map token_meant l.rest)) ≡ fold mention l.initial.strings (flat_map token_strings (map token_meant l.line.tokens))

abbrev pub decreases-loop-rest : goal.decreases-loop-rest
decreases-loop-rest l = length l.rest
