use Rattle.std.proofs.Common.{◌≡◌, length, map}
use Rattle.i7_sentences.specs.TextPieces.{are_spelled}
use Rattle.i7_sentences.proofs.word_list.are_spelled.Given as goal

abbrev pub invariant-loop-left : goal.invariant-loop-left
invariant-loop-left l = are_spelled l.left (map (λ spelling. spelling.now) l.right) ≡ are_spelled l.words (map (λ spelling. spelling.now) l.spellings)

abbrev pub decreases-loop-left : goal.decreases-loop-left
decreases-loop-left l = length l.left
