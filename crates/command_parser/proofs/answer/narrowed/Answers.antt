use Rattle.std.proofs.Common.{◌∷◌, ap, ◌∙◌, map}
use Rattle.std.specs.Prelude.{filter}
use Rattle.play_meaning.specs.Commands.{done_to}
use Rattle.command_parser.specs.Fillings.{is_meant}
use Rattle.command_parser.specs.Settling.{outcome_of, settled_by}
use Rattle.command_parser.proofs.Refusals.{on_err_so}
use Rattle.command_parser.proofs.Settled.{acts_as, asks_as, not_seen_as, slot_comes}
use Rattle.command_parser.proofs.answer.narrowed.Goals as goal

pub returns-in-Acts-clause-read : goal.returns-in-Acts-clause-read
returns-in-Acts-clause-read g c =
    let gr = g.C.Commands.grammar c.args.commands.now in
    let q = c.args.question.now in
    let slot = filter (is_meant gr (map (λ word. word.now) c.args.noun.now)) q.candidates in
    let comes = slot_comes gr q.action q.chosen slot q.others c.args.filling _ _ c.requires.comes_to
    (c.done_to-begun.ensures ∙ ap (λ action. done_to action c.chosen.result.now) c.action.ensures ∙ ap (done_to q.action) c.chosen.ensures)
    (c.settled_by.ensures ∙ ap (λ others. settled_by c.args.filling c.done_to-begun.result (λ next. outcome_of gr next others)) c.others.ensures) in
    acts_as gr q.action q.chosen (slot ∷ q.others) c.in-Acts.now (comes ∙ c.in-Acts.is)

pub returns-in-NotSeen-clause-read : goal.returns-in-NotSeen-clause-read
returns-in-NotSeen-clause-read g c =
    let gr = g.C.Commands.grammar c.args.commands.now in
    let q = c.args.question.now in
    let slot = filter (is_meant gr (map (λ word. word.now) c.args.noun.now)) q.candidates in
    let comes = slot_comes gr q.action q.chosen slot q.others c.args.filling _ _ c.requires.comes_to
    (c.done_to-begun.ensures ∙ ap (λ action. done_to action c.chosen.result.now) c.action.ensures ∙ ap (done_to q.action) c.chosen.ensures)
    (c.settled_by.ensures ∙ ap (λ others. settled_by c.args.filling c.done_to-begun.result (λ next. outcome_of gr next others)) c.others.ensures) in
    not_seen_as gr q.action q.chosen (slot ∷ q.others) (comes ∙ c.in-NotSeen.is)

pub returns-in_err-listed_answer-in-Asks-clause-asks : goal.returns-in_err-listed_answer-in-Asks-clause-asks
returns-in_err-listed_answer-in-Asks-clause-asks g c =
    let gr = g.C.Commands.grammar c.args.commands.now in
    let q = c.args.question.now in
    let slot = filter (is_meant gr (map (λ word. word.now) c.args.noun.now)) q.candidates in
    let comes = slot_comes gr q.action q.chosen slot q.others c.args.filling _ _ c.requires.comes_to
    (c.done_to-begun.ensures ∙ ap (λ action. done_to action c.chosen.result.now) c.action.ensures ∙ ap (done_to q.action) c.chosen.ensures)
    (c.settled_by.ensures ∙ ap (λ others. settled_by c.args.filling c.done_to-begun.result (λ next. outcome_of gr next others)) c.others.ensures) in
    on_err_so c.from_residual.result (asks_as gr q.action q.chosen (slot ∷ q.others) (comes ∙ c.in-Asks.is))
