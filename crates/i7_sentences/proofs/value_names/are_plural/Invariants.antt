use Rattle.std.proofs.Common.{◌≡◌, length}
use Rattle.i7_sentences.specs.Names.{words_in}
use Rattle.i7_sentences.specs.ValueForms.{are_plural}
use Rattle.i7_sentences.proofs.value_names.are_plural.Given as goal

abbrev pub invariant-loop-left : goal.invariant-loop-left
invariant-loop-left l = are_plural (words_in l.left) l.right ≡ are_plural (words_in l.words) l.names

abbrev pub decreases-loop-left : goal.decreases-loop-left
decreases-loop-left l = length l.left
