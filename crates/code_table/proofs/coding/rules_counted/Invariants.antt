use Rattle.std.proofs.Common.{◌≡◌, ◌+◌, length}
use Rattle.code_table.proofs.Heads.{heads_of_rules}
use Rattle.code_table.proofs.coding.rules_counted.Given as goal

abbrev pub invariant-loop-rest : goal.invariant-loop-rest
invariant-loop-rest l = l.count + heads_of_rules l.rest ≡ l.fn.before + heads_of_rules l.fn.rules

abbrev pub decreases-loop-rest : goal.decreases-loop-rest
decreases-loop-rest l = length l.rest
