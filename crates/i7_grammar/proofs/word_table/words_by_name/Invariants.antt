use Rattle.std.proofs.Common.{◌≡◌, ◌++◌, ◌+◌, ◌≤◌, length}
use Rattle.i7_grammar.specs.GrammarScans.{named_from}
use Rattle.i7_grammar.proofs.word_table.words_by_name.Given as goal

abbrev pub invariant-loop-rest : goal.invariant-loop-rest
invariant-loop-rest l = record { same : l.all.items ++ named_from l.number l.rest ≡ named_from 0 l.objects; bound : l.number + length l.rest ≤ length l.objects }

abbrev pub decreases-loop-rest : goal.decreases-loop-rest
decreases-loop-rest l = length l.rest
