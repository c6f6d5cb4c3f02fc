use Rattle.std.proofs.Common.{◌≡◌, ◌+◌, ◌≤◌, length}
use Rattle.i7_grammar.specs.Targets.{action_from}
use Rattle.i7_grammar.proofs.target.action_named.Given as goal

abbrev pub invariant-loop-rest : goal.invariant-loop-rest
invariant-loop-rest l = record { same : action_from l.number l.rest l.words ≡ action_from 0 l.actions l.words; bound : l.number + length l.rest ≤ length l.actions }

abbrev pub decreases-loop-rest : goal.decreases-loop-rest
decreases-loop-rest l = length l.rest
