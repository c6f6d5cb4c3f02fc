use Rattle.std.proofs.Common.{◌≡◌, ◌+◌, length}
use Rattle.i7_sentences.specs.Bodies.{is_same_phrase}
use Rattle.i7_sentences.specs.Cuts.{opens_nothing}
use Rattle.i7_sentences.specs.Pieces.{piece_len}
use Rattle.i7_sentences.proofs.body.phrase_len.Given as goal

abbrev pub invariant-loop-rest : goal.invariant-loop-rest
invariant-loop-rest l =
    (l.count + piece_len opens_nothing is_same_phrase l.rest ≡ piece_len opens_nothing is_same_phrase l.tokens)
    × (l.count + length l.rest ≡ length l.tokens)

abbrev pub decreases-loop-rest : goal.decreases-loop-rest
decreases-loop-rest l = length l.rest
