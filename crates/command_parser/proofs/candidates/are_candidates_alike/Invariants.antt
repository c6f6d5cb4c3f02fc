use Rattle.std.proofs.Common.{◌≡◌, ◌-◌, map}
use Rattle.std.specs.List.{list_all, range_with_len}
use Rattle.command_parser.specs.Fillings.{is_alike_if, is_candidate}
use Rattle.command_grammar.specs.Lines.{told_token}
use Rattle.command_parser.proofs.candidates.are_candidates_alike.Given as goal

abbrev pub invariant-loop-number : goal.invariant-loop-number
invariant-loop-number g l =
    let p = is_alike_if (g.C.Commands.grammar l.commands) (is_candidate (g.C.Commands.grammar l.commands) (g.C.Commands.sees l.commands) (told_token l.slot) (map (λ word. word.now) l.noun)) l.first in
    list_all p (range_with_len l.number (l.count - l.number)) ≡ list_all p (range_with_len 0 l.count)
