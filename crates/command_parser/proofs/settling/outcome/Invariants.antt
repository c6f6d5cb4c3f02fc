use Rattle.std.proofs.Common.{◌≡◌, length}
use Rattle.command_parser.specs.Settling.{outcome_of}
use Rattle.command_parser.proofs.settling.outcome.Given as goal

abbrev pub invariant-loop-rest : goal.invariant-loop-rest
invariant-loop-rest g l = outcome_of (g.C.Commands.grammar l.commands) l.next l.rest ≡ outcome_of (g.C.Commands.grammar l.commands) l.now l.slots

abbrev pub decreases-loop-rest : goal.decreases-loop-rest
decreases-loop-rest g l = length l.rest
