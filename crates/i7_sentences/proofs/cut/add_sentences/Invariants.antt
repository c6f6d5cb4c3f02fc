use Rattle.std.proofs.Common.{◌≡◌, length}
use Rattle.std.specs.Prelude.{fold}
use Rattle.i7_sentences.specs.Cuts.{cut, is_colon, is_same_sentence, with_sentence}
use Rattle.i7_sentences.specs.Pieces.{pieces_of}
use Rattle.i7_sentences.proofs.cut.add_sentences.Given as goal

abbrev pub invariant-loop-rest : goal.invariant-loop-rest
invariant-loop-rest l =
    fold with_sentence (pieces_of l.parts.items) (cut is_colon is_same_sentence l.rest)
    ≡ fold with_sentence (pieces_of l.initial.parts.items) (cut is_colon is_same_sentence l.paragraph)

abbrev pub decreases-loop-rest : goal.decreases-loop-rest
decreases-loop-rest l = length l.rest
