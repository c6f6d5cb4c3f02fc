use Rattle.std.proofs.Common.{◌≡◌, ◌+◌, length}
use Rattle.i7_sentences.specs.Cuts.{is_same_paragraph, opens_nothing}
use Rattle.i7_sentences.specs.Pieces.{piece_len}
use Rattle.i7_sentences.proofs.cut.paragraph_len.Given as goal

abbrev pub invariant-loop-rest : goal.invariant-loop-rest
invariant-loop-rest l =
    (l.count + piece_len opens_nothing is_same_paragraph l.rest ≡ piece_len opens_nothing is_same_paragraph l.tokens)
    × (l.count + length l.rest ≡ length l.tokens)

abbrev pub decreases-loop-rest : goal.decreases-loop-rest
decreases-loop-rest l = length l.rest
