use Rattle.std.proofs.Common.{◌≡◌, ◌+◌, length}
use Rattle.i7_sentences.specs.Names.{unjoined}
use Rattle.i7_sentences.proofs.names.unjoined.Given as goal

abbrev pub invariant-loop-rest : goal.invariant-loop-rest
invariant-loop-rest l = (l.count + unjoined l.rest ≡ unjoined l.words) × (l.count + length l.rest ≡ length l.words)

abbrev pub decreases-loop-rest : goal.decreases-loop-rest
decreases-loop-rest l = length l.rest
