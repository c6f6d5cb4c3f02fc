use Rattle.std.proofs.Common.{◌≡◌, length}
use Rattle.i7_sentences.specs.Bodies.{phrases_of}
use Rattle.i7_sentences.specs.BodyOrder.{body_fault, fault_from, place_of}
use Rattle.i7_sentences.proofs.body_order.body_fault.Given as goal

abbrev pub invariant-loop-rest : goal.invariant-loop-rest
invariant-loop-rest l = fault_from (place_of l.place) (phrases_of l.rest) ≡ body_fault l.line (phrases_of l.phrases)

abbrev pub decreases-loop-rest : goal.decreases-loop-rest
decreases-loop-rest l = length l.rest
