use Rattle.std.proofs.Common.{◌≡◌, ◌++◌, length}
use Rattle.i7_grammar.specs.Grammars.{synonyms_in}
use Rattle.i7_grammar.specs.Understood.{all_lent}
use Rattle.i7_grammar.proofs.telling.synonyms_in.Given as goal

abbrev pub invariant-loop-rest : goal.invariant-loop-rest
invariant-loop-rest l = l.synonyms.items ++ synonyms_in (all_lent l.rest) ≡ synonyms_in (all_lent l.all)

abbrev pub decreases-loop-rest : goal.decreases-loop-rest
decreases-loop-rest l = length l.rest
