use Rattle.std.proofs.Common.{length}
use Rattle.code_table.proofs.Grown.{IsOnWay}
use Rattle.code_table.proofs.table.table_of.Given as goal

abbrev pub invariant-loop-rest : goal.invariant-loop-rest
invariant-loop-rest l = IsOnWay l.counts l.heads l.codes l.uses.items l.table.items l.rest

abbrev pub decreases-loop-rest : goal.decreases-loop-rest
decreases-loop-rest l = length l.rest
