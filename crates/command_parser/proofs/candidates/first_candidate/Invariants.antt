use Rattle.std.proofs.Common.{◌≡◌, ◌-◌, map}
use Rattle.std.specs.Prelude.{find}
use Rattle.std.specs.List.{range_with_len}
use Rattle.command_parser.specs.Fillings.{is_candidate}
use Rattle.command_grammar.specs.Lines.{told_token}
use Rattle.command_parser.proofs.candidates.first_candidate.Given as goal

abbrev pub invariant-loop-number : goal.invariant-loop-number
invariant-loop-number g l =
    find (is_candidate (g.C.Commands.grammar l.commands) (g.C.Commands.sees l.commands) (told_token l.slot) (map (λ word. word.now) l.noun)) (range_with_len l.number (l.count - l.number))
    ≡ find (is_candidate (g.C.Commands.grammar l.commands) (g.C.Commands.sees l.commands) (told_token l.slot) (map (λ word. word.now) l.noun)) (range_with_len 0 l.count)
