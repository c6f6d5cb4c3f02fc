use Rattle.std.proofs.Common.{◌≡◌, take}
use Rattle.object_words.specs.Mentions.{first_mentions}
use Rattle.story_format.proofs.checks.are_distinct.Given as goal

abbrev pub invariant-loop-string : goal.invariant-loop-string
invariant-loop-string l = l.once ≡ first_mentions (take l.string-index l.strings)
