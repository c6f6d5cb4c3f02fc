use Rattle.std.proofs.Common.{◌≡◌, take}
use Rattle.std.specs.Prelude.{fold}
use Rattle.object_words.specs.Mentions.{mention}
use Rattle.object_words.proofs.StringLemmas.{items_of}
use Rattle.story_format.proofs.making.mention_all.Given as goal

abbrev pub invariant-loop-string : goal.invariant-loop-string
invariant-loop-string l = l.strings ≡ fold mention l.initial.strings (items_of (take l.string-index l.string-items))
