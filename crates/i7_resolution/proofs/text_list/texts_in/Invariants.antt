use Rattle.std.proofs.Common.{◌≡◌, ◌++◌, length}
use Rattle.i7_resolution.specs.TextList.{texts_in, texts_lent}
use Rattle.i7_resolution.proofs.text_list.texts_in.Given as goal

abbrev pub invariant-loop-rest : goal.invariant-loop-rest
invariant-loop-rest l = texts_lent l.texts.items ++ texts_in l.rest ≡ texts_in l.sentences

abbrev pub decreases-loop-rest : goal.decreases-loop-rest
decreases-loop-rest l = length l.rest
