use Rattle.std.proofs.Common.{◌≡◌, ◌+◌, length}
use Rattle.i7_sentences.specs.Bodies.{comma_len}
use Rattle.i7_sentences.proofs.body.comma_len.Given as goal

abbrev pub invariant-loop-rest : goal.invariant-loop-rest
invariant-loop-rest l = (l.count + comma_len l.rest ≡ comma_len l.tokens) × (l.count + length l.rest ≡ length l.tokens)

abbrev pub decreases-loop-rest : goal.decreases-loop-rest
decreases-loop-rest l = length l.rest
