use Rattle.std.proofs.Common.{◌≡◌, drop, map}
use Rattle.std.specs.List.{list_any}
use Rattle.command_parser.specs.Commanding.{line_fits}
use Rattle.command_parser.proofs.unread.any_fits.Given as goal

abbrev pub invariant-loop-line : goal.invariant-loop-line
invariant-loop-line g l =
    list_any (line_fits l.verb (map (λ word. word.now) l.words)) (drop l.line (g.C.Commands.grammar l.commands).lines)
    ≡ list_any (line_fits l.verb (map (λ word. word.now) l.words)) (g.C.Commands.grammar l.commands).lines
