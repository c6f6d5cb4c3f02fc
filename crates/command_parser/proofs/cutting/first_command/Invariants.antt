use Rattle.std.proofs.Common.{length}
use Rattle.command_parser.proofs.Cuts.{Stands}
use Rattle.command_parser.proofs.cutting.first_command.Given as goal

abbrev pub invariant-loop-rest : goal.invariant-loop-rest
invariant-loop-rest l = Stands l.command l.rest l.line

abbrev pub decreases-loop-rest : goal.decreases-loop-rest
decreases-loop-rest l = length l.rest
