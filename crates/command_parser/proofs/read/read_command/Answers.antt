use Rattle.std.proofs.Common.{ap, sym, ◌∙◌}
use Rattle.command_parser.specs.Commanding.{command_by}
use Rattle.command_parser.specs.Settling.{is_asking}
use Rattle.command_parser.proofs.Meanings.{command_read}
use Rattle.command_parser.proofs.Refusals.{on_err_so}
use Rattle.command_parser.proofs.read.read_command.Goals as goal

pub returns-clause-read : goal.returns-clause-read
returns-clause-read g c =
    let gr = g.C.Commands.grammar c.args.commands.now in
    let sees = g.C.Commands.sees c.args.commands.now in
    c.in_ok-meaning.ensures.read ∙ ap (command_by gr sees) c.words.ensures ∙ sym (command_read gr sees c.args.command.now)

pub returns-in_err-meaning-clause-asks : goal.returns-in_err-meaning-clause-asks
returns-in_err-meaning-clause-asks g c =
    let gr = g.C.Commands.grammar c.args.commands.now in
    let sees = g.C.Commands.sees c.args.commands.now in
    on_err_so c.from_residual.result (ap is_asking (command_read gr sees c.args.command.now ∙ sym (ap (command_by gr sees) c.words.ensures)) ∙ c.in_err-meaning.ensures.asks)
