use Rattle.std.proofs.Common.{◌≡◌, ◌++◌, length}
use Rattle.i7_sentences.specs.Names.{words_in}
use Rattle.i7_sentences.proofs.word_list.words_in.Given as goal

abbrev pub invariant-loop-rest : goal.invariant-loop-rest
invariant-loop-rest l = l.all.items ++ words_in l.rest ≡ words_in l.letter

abbrev pub decreases-loop-rest : goal.decreases-loop-rest
decreases-loop-rest l = length l.rest
