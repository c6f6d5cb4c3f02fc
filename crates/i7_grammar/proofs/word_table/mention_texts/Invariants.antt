use Rattle.std.proofs.Common.{◌≡◌, length}
use Rattle.i7_grammar.specs.GrammarScans.{with_texts}
use Rattle.i7_grammar.proofs.word_table.mention_texts.Given as goal

abbrev pub invariant-loop-rest : goal.invariant-loop-rest
invariant-loop-rest l = with_texts l.words l.rest ≡ with_texts l.initial.words l.texts

abbrev pub decreases-loop-rest : goal.decreases-loop-rest
decreases-loop-rest l = length l.rest
