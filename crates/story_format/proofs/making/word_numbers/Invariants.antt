use Rattle.std.proofs.Common.{◌≡◌, take, map}
use Rattle.object_words.specs.Mentions.{number_in}
use Rattle.object_words.proofs.StringLemmas.{items_of}
use Rattle.story_format.proofs.making.word_numbers.Given as goal

abbrev pub invariant-loop-word : goal.invariant-loop-word
invariant-loop-word l = l.numbers.items ≡ map (number_in l.strings) (items_of (take l.word-index l.word-items))
