use Rattle.std.proofs.Common.{◌≡◌, drop}
use Rattle.std.specs.List.{list_any}
use Rattle.command_parser.specs.Commanding.{line_begins}
use Rattle.command_parser.proofs.unread.any_begins.Given as goal

abbrev pub invariant-loop-line : goal.invariant-loop-line
invariant-loop-line g l = list_any (line_begins l.verb) (drop l.line (g.C.Commands.grammar l.commands).lines) ≡ list_any (line_begins l.verb) (g.C.Commands.grammar l.commands).lines
