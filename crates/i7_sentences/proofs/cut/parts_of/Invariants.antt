use Rattle.std.proofs.Common.{◌≡◌, length}
use Rattle.std.specs.Prelude.{fold}
use Rattle.i7_sentences.specs.Cuts.{cut, is_same_paragraph, opens_nothing, parts_of, with_paragraph}
use Rattle.i7_sentences.specs.Pieces.{pieces_of}
use Rattle.i7_sentences.proofs.cut.parts_of.Given as goal

abbrev pub invariant-loop-rest : goal.invariant-loop-rest
invariant-loop-rest l =
    fold with_paragraph (pieces_of l.parts.items) (cut opens_nothing is_same_paragraph l.rest) ≡ parts_of l.tokens

abbrev pub decreases-loop-rest : goal.decreases-loop-rest
decreases-loop-rest l = length l.rest
