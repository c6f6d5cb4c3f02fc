use Rattle.std.proofs.Common.{◌≡◌, ◌+◌, length}
use Rattle.i7_sentences.specs.Cuts.{is_colon, is_same_sentence}
use Rattle.i7_sentences.specs.Pieces.{left_len, piece_len}
use Rattle.i7_sentences.proofs.cut.sentence_len.Given as goal

abbrev pub invariant-loop-rest : goal.invariant-loop-rest
invariant-loop-rest l =
    (l.count + left_len is_colon is_same_sentence l.has_colon l.rest ≡ piece_len is_colon is_same_sentence l.tokens)
    × (l.count + length l.rest ≡ length l.tokens)

abbrev pub decreases-loop-rest : goal.decreases-loop-rest
decreases-loop-rest l = length l.rest
