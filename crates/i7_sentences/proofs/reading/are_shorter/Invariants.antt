use Rattle.std.proofs.Common.{◌≡◌, length, map}
use Rattle.i7_sentences.specs.Forms.{are_shorter}
use Rattle.i7_sentences.proofs.reading.are_shorter.Given as goal

abbrev pub invariant-loop-left : goal.invariant-loop-left
invariant-loop-left l = are_shorter (map (λ letter. letter.now) l.left) (map (λ letter. letter.now) l.right) ≡ are_shorter (map (λ letter. letter.now) l.letters) (map (λ letter. letter.now) l.others)

abbrev pub decreases-loop-left : goal.decreases-loop-left
decreases-loop-left l = length l.left
