use Rattle.std.proofs.Common.{◌≡◌, length}
use Rattle.i7_sentences.specs.Automata.{is_of, runs}
use Rattle.i7_sentences.proofs.value_names.is_of.Given as goal

abbrev pub invariant-loop-rest : goal.invariant-loop-rest
invariant-loop-rest l = runs l.class l.state l.rest ≡ is_of l.class l.words

abbrev pub decreases-loop-rest : goal.decreases-loop-rest
decreases-loop-rest l = length l.rest
