use Rattle.std.proofs.Common.{◌≡◌, length}
use Rattle.std.specs.Prelude.{fold}
use Rattle.object_words.specs.Mentions.{mention}
use Rattle.story_format.specs.Making.{names_of_values}
use Rattle.story_format.proofs.value_making.mention_values.Given as goal

abbrev pub invariant-loop-rest : goal.invariant-loop-rest
invariant-loop-rest l = fold mention l.strings (names_of_values l.rest) ≡ fold mention l.initial.strings (names_of_values l.values)

abbrev pub decreases-loop-rest : goal.decreases-loop-rest
decreases-loop-rest l = length l.rest
