use Rattle.std.proofs.Common.{◌≡◌, ◌++◌, length, map}
use Rattle.object_words.specs.Mentions.{number_in}
use Rattle.story_format.proofs.value_making.name_numbers.Given as goal

abbrev pub invariant-loop-rest : goal.invariant-loop-rest
invariant-loop-rest l = l.numbers.items ++ map (number_in l.strings) l.rest ≡ map (number_in l.strings) l.names

abbrev pub decreases-loop-rest : goal.decreases-loop-rest
decreases-loop-rest l = length l.rest
