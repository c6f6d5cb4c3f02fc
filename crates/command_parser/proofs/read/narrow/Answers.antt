use Rattle.std.proofs.Common.{ℕ, List, Some, ap, sym, ◌∙◌}
use Rattle.play_meaning.specs.Commands.{answer}
use Rattle.command_parser.specs.Commanding.{command_by}
use Rattle.command_parser.specs.Settling.{is_asking}
use Rattle.command_parser.proofs.Meanings.{read_is}
use Rattle.command_parser.proofs.Refusals.{on_err_so}
use Rattle.command_parser.proofs.read.narrow.Goals as goal

pub returns-clause-read : goal.returns-clause-read
returns-clause-read g c =
    let gr = g.C.Commands.grammar c.args.commands.now in
    let sees = g.C.Commands.sees c.args.commands.now in
    c.in_ok-answer.ensures.read ∙ ap (λ (words : List (List ℕ)). answer gr (Some c.args.question.now) words (command_by gr sees words)) c.words.ensures
    ∙ sym (read_is gr (Some c.args.question.now) sees c.args.command.now)

pub returns-in_err-answer-clause-asks : goal.returns-in_err-answer-clause-asks
returns-in_err-answer-clause-asks g c =
    let gr = g.C.Commands.grammar c.args.commands.now in
    let sees = g.C.Commands.sees c.args.commands.now in
    on_err_so c.from_residual.result
    (ap is_asking (read_is gr (Some c.args.question.now) sees c.args.command.now
    ∙ sym (ap (λ (words : List (List ℕ)). answer gr (Some c.args.question.now) words (command_by gr sees words)) c.words.ensures)) ∙ c.in_err-answer.ensures.asks)
