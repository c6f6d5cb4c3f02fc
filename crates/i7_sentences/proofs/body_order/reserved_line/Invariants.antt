use Rattle.std.proofs.Common.{◌≡◌, length}
use Rattle.i7_sentences.specs.Bodies.{phrases_of}
use Rattle.i7_sentences.specs.BodyOrder.{reserved_line}
use Rattle.i7_sentences.proofs.body_order.reserved_line.Given as goal

abbrev pub invariant-loop-rest : goal.invariant-loop-rest
invariant-loop-rest l = reserved_line (phrases_of l.rest) ≡ reserved_line (phrases_of l.phrases)

abbrev pub decreases-loop-rest : goal.decreases-loop-rest
decreases-loop-rest l = length l.rest
