use Rattle.std.proofs.Common.{◌≡◌, length}
use Rattle.play_meaning.specs.Commands.{settle}
use Rattle.command_parser.proofs.settling.settle.Given as goal

abbrev pub invariant-loop-rest : goal.invariant-loop-rest
invariant-loop-rest g l = settle (g.C.Commands.grammar l.commands) l.action l.chosen.items l.rest ≡ settle (g.C.Commands.grammar l.commands) l.action l.fn.chosen.items l.slots

abbrev pub decreases-loop-rest : goal.decreases-loop-rest
decreases-loop-rest g l = length l.rest
