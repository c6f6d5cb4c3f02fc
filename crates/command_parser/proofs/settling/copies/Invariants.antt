use Rattle.std.proofs.Common.{◌≡◌, ◌++◌, length}
use Rattle.command_parser.proofs.settling.copies.Given as goal

abbrev pub invariant-loop-rest : goal.invariant-loop-rest
invariant-loop-rest l = l.all.items ++ l.rest ≡ l.lists

abbrev pub decreases-loop-rest : goal.decreases-loop-rest
decreases-loop-rest l = length l.rest
