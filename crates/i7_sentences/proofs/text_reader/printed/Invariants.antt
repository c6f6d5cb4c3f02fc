use Rattle.std.proofs.Common.{◌≡◌, ◌++◌, length}
use Rattle.i7_sentences.specs.TextPieces.{printed, printed_from}
use Rattle.i7_sentences.proofs.text_reader.printed.Given as goal

abbrev pub invariant-loop-rest : goal.invariant-loop-rest
invariant-loop-rest l = l.out.items ++ printed_from l.is_behind l.rest ≡ printed l.bytes

abbrev pub decreases-loop-rest : goal.decreases-loop-rest
decreases-loop-rest l = length l.rest
