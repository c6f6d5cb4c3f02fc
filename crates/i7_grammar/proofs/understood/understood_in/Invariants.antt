use Rattle.std.proofs.Common.{◌≡◌, ◌++◌, length}
use Rattle.i7_grammar.specs.Knowns.{known_of}
use Rattle.i7_grammar.specs.Understood.{all_lent, understood_in}
use Rattle.i7_grammar.proofs.understood.understood_in.Given as goal

abbrev pub invariant-loop-rest : goal.invariant-loop-rest
invariant-loop-rest l = all_lent l.all.items ++ understood_in (known_of l.known) l.rest ≡ understood_in (known_of l.known) l.sentences

abbrev pub decreases-loop-rest : goal.decreases-loop-rest
decreases-loop-rest l = length l.rest
