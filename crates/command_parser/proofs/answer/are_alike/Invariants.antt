use Rattle.std.proofs.Common.{◌≡◌, length, map}
use Rattle.std.specs.List.{list_all}
use Rattle.command_parser.specs.Fillings.{is_alike_if, is_meant}
use Rattle.command_parser.proofs.answer.are_alike.Given as goal

abbrev pub invariant-loop-rest : goal.invariant-loop-rest
invariant-loop-rest g l =
    list_all (is_alike_if (g.C.Commands.grammar l.commands) (is_meant (g.C.Commands.grammar l.commands) (map (λ word. word.now) l.noun)) l.first) l.rest
    ≡ list_all (is_alike_if (g.C.Commands.grammar l.commands) (is_meant (g.C.Commands.grammar l.commands) (map (λ word. word.now) l.noun)) l.first) l.objects

abbrev pub decreases-loop-rest : goal.decreases-loop-rest
decreases-loop-rest g l = length l.rest
