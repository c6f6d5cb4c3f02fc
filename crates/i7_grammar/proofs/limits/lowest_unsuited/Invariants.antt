use Rattle.std.proofs.Common.{◌≡◌, length}
use Rattle.i7_sentences.specs.Lowest.{lower_of, lowest}
use Rattle.i7_grammar.specs.Grammars.{unsuited_at}
use Rattle.i7_grammar.specs.Understood.{all_lent}
use Rattle.i7_grammar.proofs.limits.lowest_unsuited.Given as goal

abbrev pub invariant-loop-rest : goal.invariant-loop-rest
invariant-loop-rest l = lower_of l.low (lowest unsuited_at (all_lent l.rest)) ≡ lowest unsuited_at (all_lent l.all)

abbrev pub decreases-loop-rest : goal.decreases-loop-rest
decreases-loop-rest l = length l.rest
