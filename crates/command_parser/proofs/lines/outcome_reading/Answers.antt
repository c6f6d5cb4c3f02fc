use Rattle.std.proofs.Common.{Some, ap, ◌∙◌, map}
use Rattle.command_parser.specs.Searching.{first_filled}
use Rattle.command_parser.specs.Tokens.{line_at}
use Rattle.command_parser.proofs.Refusals.{on_err_so}
use Rattle.command_parser.proofs.Settled.{acts_so, asks_so, not_seen_so}
use Rattle.command_parser.proofs.lines.outcome_reading.Goals as goal

pub returns-in_err-listed_reading-in-Asks-clause-asks : goal.returns-in_err-listed_reading-in-Asks-clause-asks
returns-in_err-listed_reading-in-Asks-clause-asks g c =
    let gr = g.C.Commands.grammar c.args.commands.now in
    let asks = asks_so gr (line_at gr c.args.line).action (first_filled gr (g.C.Commands.sees c.args.commands.now) (line_at gr c.args.line).tokens (map (λ word. word.now) c.args.words.now)) (c.requires.comes_to ∙ ap Some c.in-Asks.is) in
    on_err_so c.from_residual.result asks

pub returns-in-Acts-clause-read : goal.returns-in-Acts-clause-read
returns-in-Acts-clause-read g c =
    let gr = g.C.Commands.grammar c.args.commands.now in
    acts_so gr (line_at gr c.args.line).action (first_filled gr (g.C.Commands.sees c.args.commands.now) (line_at gr c.args.line).tokens (map (λ word. word.now) c.args.words.now)) c.in-Acts.now (c.requires.comes_to ∙ ap Some c.in-Acts.is)

pub returns-in-NotSeen-clause-read : goal.returns-in-NotSeen-clause-read
returns-in-NotSeen-clause-read g c =
    let gr = g.C.Commands.grammar c.args.commands.now in
    not_seen_so gr (line_at gr c.args.line).action (first_filled gr (g.C.Commands.sees c.args.commands.now) (line_at gr c.args.line).tokens (map (λ word. word.now) c.args.words.now)) (c.requires.comes_to ∙ ap Some c.in-NotSeen.is)
