use Rattle.std.proofs.Common.{◌≡◌, ◌++◌, length, map}
use Rattle.std.specs.Prelude.{filter}
use Rattle.command_parser.specs.Fillings.{is_meant}
use Rattle.command_parser.proofs.answer.meant.Given as goal

abbrev pub invariant-loop-rest : goal.invariant-loop-rest
invariant-loop-rest g l =
    l.all.items ++ filter (is_meant (g.C.Commands.grammar l.commands) (map (λ word. word.now) l.noun)) l.rest
    ≡ filter (is_meant (g.C.Commands.grammar l.commands) (map (λ word. word.now) l.noun)) l.objects

abbrev pub decreases-loop-rest : goal.decreases-loop-rest
decreases-loop-rest g l = length l.rest
