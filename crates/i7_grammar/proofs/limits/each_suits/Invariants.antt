use Rattle.std.proofs.Common.{◌≡◌, length}
use Rattle.std.specs.List.{list_all}
use Rattle.i7_grammar.specs.Grammars.{suits}
use Rattle.i7_grammar.proofs.limits.each_suits.Given as goal

abbrev pub invariant-loop-rest : goal.invariant-loop-rest
invariant-loop-rest l = list_all (suits l.target) l.rest ≡ list_all (suits l.target) l.texts

abbrev pub decreases-loop-rest : goal.decreases-loop-rest
decreases-loop-rest l = length l.rest
