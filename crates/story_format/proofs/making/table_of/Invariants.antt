use Rattle.std.proofs.Common.{◌≡◌, take}
use Rattle.object_words.proofs.StringLemmas.{items_of}
use Rattle.story_format.proofs.making.table_of.Given as goal

abbrev pub invariant-loop-string : goal.invariant-loop-string
invariant-loop-string l = l.all.items ≡ items_of (take l.string-index l.string-items)
