use Rattle.std.proofs.Common.{◌≡◌, length}
use Rattle.i7_sentences.specs.Understandings.{are_choices}
use Rattle.i7_sentences.proofs.grammar_sentence.are_choices.Given as goal

abbrev pub invariant-loop-rest : goal.invariant-loop-rest
invariant-loop-rest l = are_choices l.rest ≡ are_choices l.tokens

abbrev pub decreases-loop-rest : goal.decreases-loop-rest
decreases-loop-rest l = length l.rest
