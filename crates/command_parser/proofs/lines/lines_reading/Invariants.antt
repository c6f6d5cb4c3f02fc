use Rattle.std.proofs.Common.{◌≡◌, drop, map}
use Rattle.command_parser.specs.Commanding.{lines_read}
use Rattle.command_parser.proofs.lines.lines_reading.Given as goal

abbrev pub invariant-loop-line : goal.invariant-loop-line
invariant-loop-line g l =
    lines_read (g.C.Commands.grammar l.commands) (g.C.Commands.sees l.commands) (map (λ word. word.now) l.words) (drop l.line (g.C.Commands.grammar l.commands).lines)
    ≡ lines_read (g.C.Commands.grammar l.commands) (g.C.Commands.sees l.commands) (map (λ word. word.now) l.words) (g.C.Commands.grammar l.commands).lines
