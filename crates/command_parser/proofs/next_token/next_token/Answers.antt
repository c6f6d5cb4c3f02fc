use Rattle.std.proofs.Common.{ap, sym, ◌∙◌, arith}
use Rattle.std.specs.Option.{option_map}
use Rattle.command_grammar.specs.Lines.{told_token}
use Rattle.command_parser.specs.Tokens.{line_at}
use Rattle.command_parser.proofs.Places.{at_place, none_within}
use Rattle.command_parser.proofs.next_token.next_token.Goals as goal

pub returns-in-Some : goal.returns-in-Some
returns-in-Some g c =
    at_place (line_at (g.C.Commands.grammar c.args.commands.now) c.args.line).tokens c.args.place (told_token c.in-Some.token)
    (sym c.token.ensures ∙ ap (option_map told_token) c.in-Some.is)

pub returns-in-None : goal.returns-in-None
returns-in-None g c =
    none_within (line_at (g.C.Commands.grammar c.args.commands.now) c.args.line).tokens c.args.place (omega arith)
    (sym c.token.ensures ∙ ap (option_map told_token) c.in-None.is)
