use Rattle.std.proofs.Common.{◌≡◌, length}
use Rattle.std.specs.List.{list_all}
use Rattle.play_meaning.specs.Grammar.{are_named_alike}
use Rattle.command_parser.proofs.settling.are_alike.Given as goal

abbrev pub invariant-loop-rest : goal.invariant-loop-rest
invariant-loop-rest g l = list_all (are_named_alike (g.C.Commands.grammar l.commands) l.first) l.rest ≡ list_all (are_named_alike (g.C.Commands.grammar l.commands) l.first) l.objects

abbrev pub decreases-loop-rest : goal.decreases-loop-rest
decreases-loop-rest g l = length l.rest
