use Rattle.std.proofs.Common.{ap, sym, ◌∙◌, map}
use Rattle.std.specs.Prelude.{filter}
use Rattle.command_parser.specs.Commanding.{command_by}
use Rattle.command_parser.specs.Fillings.{filling_of, is_meant}
use Rattle.command_parser.specs.Settling.{is_asking}
use Rattle.command_parser.proofs.Filters.{answered, new_command}
use Rattle.command_parser.proofs.Refusals.{on_err_so}
use Rattle.command_parser.proofs.answer.answer.Goals as goal

pub returns-then-is_empty-clause-read : goal.returns-then-is_empty-clause-read
returns-then-is_empty-clause-read g c =
    let gr = g.C.Commands.grammar c.args.commands.now in
    let words = map (λ word. word.now) c.args.words.now in
    let noun = map (λ word. word.now) c.noun_of-noun.result.now in
    c.in_ok-meaning.ensures.read
    ∙ new_command gr c.args.question.now noun words c.noun_of-noun.ensures (command_by gr (g.C.Commands.sees c.args.commands.now) words) c.narrowed_filling-filling.result
    (c.narrowed_filling-filling.ensures ∙ ap (λ objects. filling_of gr (filter (is_meant gr noun) objects)) c.candidates.ensures) (sym c.is_empty.ensures ∙ c.if-is_empty.true)

pub returns-in_err-meaning-clause-asks : goal.returns-in_err-meaning-clause-asks
returns-in_err-meaning-clause-asks g c =
    let gr = g.C.Commands.grammar c.args.commands.now in
    let words = map (λ word. word.now) c.args.words.now in
    let noun = map (λ word. word.now) c.noun_of-noun.result.now in
    on_err_so c.from_residual.result
    (ap is_asking (sym (new_command gr c.args.question.now noun words c.noun_of-noun.ensures (command_by gr (g.C.Commands.sees c.args.commands.now) words) c.narrowed_filling-filling.result
    (c.narrowed_filling-filling.ensures ∙ ap (λ objects. filling_of gr (filter (is_meant gr noun) objects)) c.candidates.ensures) (sym c.is_empty.ensures ∙ c.if-is_empty.true)))
    ∙ c.in_err-meaning.ensures.asks)

pub returns-clause-read : goal.returns-clause-read
returns-clause-read g c =
    let gr = g.C.Commands.grammar c.args.commands.now in
    let words = map (λ word. word.now) c.args.words.now in
    let noun = map (λ word. word.now) c.noun_of-noun.result.now in
    c.in_ok-narrowed.ensures.read
    ∙ answered gr c.args.question.now noun words c.noun_of-noun.ensures (command_by gr (g.C.Commands.sees c.args.commands.now) words) c.narrowed_filling-filling.result
    (c.narrowed_filling-filling.ensures ∙ ap (λ objects. filling_of gr (filter (is_meant gr noun) objects)) c.candidates.ensures) (sym c.is_empty.ensures ∙ c.if-is_empty.false)

pub returns-in_err-narrowed-clause-asks : goal.returns-in_err-narrowed-clause-asks
returns-in_err-narrowed-clause-asks g c =
    let gr = g.C.Commands.grammar c.args.commands.now in
    let words = map (λ word. word.now) c.args.words.now in
    let noun = map (λ word. word.now) c.noun_of-noun.result.now in
    on_err_so c.from_residual-in_err-narrowed.result
    (ap is_asking (sym (answered gr c.args.question.now noun words c.noun_of-noun.ensures (command_by gr (g.C.Commands.sees c.args.commands.now) words) c.narrowed_filling-filling.result
    (c.narrowed_filling-filling.ensures ∙ ap (λ objects. filling_of gr (filter (is_meant gr noun) objects)) c.candidates.ensures) (sym c.is_empty.ensures ∙ c.if-is_empty.false)))
    ∙ c.in_err-narrowed.ensures.asks)
