use Rattle.std.proofs.Common.{◌≡◌, length}
use Rattle.std.specs.Prelude.{fold}
use Rattle.object_words.specs.Mentions.{mention}
use Rattle.object_words.specs.Words.{blank_words}
use Rattle.object_words.proofs.words.mention_words.Given as goal

abbrev pub invariant-loop-end : goal.invariant-loop-end
invariant-loop-end l = fold mention l.words (blank_words l.rest) ≡ fold mention l.initial.words (blank_words l.text)

abbrev pub decreases-loop-end : goal.decreases-loop-end
decreases-loop-end l = length l.rest
