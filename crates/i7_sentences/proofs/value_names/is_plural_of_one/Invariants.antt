use Rattle.std.proofs.Common.{◌≡◌, length}
use Rattle.std.specs.List.{list_any}
use Rattle.i7_sentences.specs.ValueForms.{is_plural}
use Rattle.i7_sentences.proofs.value_names.is_plural_of_one.Given as goal

abbrev pub invariant-loop-rest : goal.invariant-loop-rest
invariant-loop-rest l = list_any (is_plural l.words) l.rest ≡ list_any (is_plural l.words) l.kinds

abbrev pub decreases-loop-rest : goal.decreases-loop-rest
decreases-loop-rest l = length l.rest
