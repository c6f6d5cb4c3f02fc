use Rattle.std.proofs.Common.{◌≡◌, ◌++◌, length}
use Rattle.i7_sentences.proofs.tagged.with_tags.Given as goal

abbrev pub invariant-loop-rest : goal.invariant-loop-rest
invariant-loop-rest l = l.out.items ++ l.rest ≡ l.tokens

abbrev pub decreases-loop-rest : goal.decreases-loop-rest
decreases-loop-rest l = length l.rest
