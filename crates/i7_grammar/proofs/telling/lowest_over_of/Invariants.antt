use Rattle.std.proofs.Common.{◌≡◌, ◌+◌, ◌≤◌, length}
use Rattle.i7_sentences.specs.Lowest.{lower_of}
use Rattle.i7_grammar.specs.GrammarScans.{over_from}
use Rattle.i7_grammar.specs.Grammars.{lines_in}
use Rattle.i7_grammar.specs.Understood.{all_lent}
use Rattle.i7_grammar.proofs.telling.lowest_over_of.Given as goal

abbrev pub invariant-loop-rest : goal.invariant-loop-rest
invariant-loop-rest l = record { same : lower_of l.low (over_from l.count l.words.items (all_lent l.rest)) ≡ over_from 0 l.initial.words.items (all_lent l.all); bound : l.count + length (lines_in (all_lent l.rest)) ≤ l.total }

abbrev pub decreases-loop-rest : goal.decreases-loop-rest
decreases-loop-rest l = length l.rest
