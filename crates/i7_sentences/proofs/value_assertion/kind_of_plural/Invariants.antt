use Rattle.std.proofs.Common.{◌≡◌, length}
use Rattle.i7_sentences.specs.ValueAssertions.{kind_of_plural}
use Rattle.i7_sentences.proofs.value_assertion.kind_of_plural.Given as goal

abbrev pub invariant-loop-rest : goal.invariant-loop-rest
invariant-loop-rest l = kind_of_plural l.rest l.words ≡ kind_of_plural l.kinds l.words

abbrev pub decreases-loop-rest : goal.decreases-loop-rest
decreases-loop-rest l = length l.rest
