use Rattle.std.proofs.Common.{◌≡◌, ap, sym, subst, ◌∙◌}
use Rattle.std.specs.Result.{IfOk}
use Rattle.play_meaning.specs.Commands.{asks_for, done_to, settle}
use Rattle.play_meaning.specs.Games.{Acts, Reading}
use Rattle.command_parser.specs.Fillings.{filling_of}
use Rattle.command_parser.specs.Readings.{told}
use Rattle.command_parser.proofs.Settled.{settle_done, settle_here}
use Rattle.command_parser.proofs.SlotSteps.{behind_first}
use Rattle.command_parser.proofs.settling.settle.Goals as goal

pub returns-in-Empty : goal.returns-in-Empty
returns-in-Empty g c =
    let gr = g.C.Commands.grammar c.args.commands.now in
    sym (settle_here gr c.args.action c.loop-rest.chosen.items c.slot-item.result c.loop-rest.rest.now _ c.in-len1-up.len_at_least c.slot-item.is
    (sym c.in-Empty.is ∙ c.listed_filling.ensures ∙ ap (filling_of gr) c.as_slice.ensures)) ∙ c.loop-rest.invariant

pub returns-in-Open : goal.returns-in-Open
returns-in-Open g c =
    let gr = g.C.Commands.grammar c.args.commands.now in
    let is = ap (λ objects. asks_for gr c.args.action c.loop-rest.chosen.items objects (behind_first c.loop-rest.rest.now)) c.as_slice-in-Open.ensures
    ∙ sym (settle_here gr c.args.action c.loop-rest.chosen.items c.slot-item.result c.loop-rest.rest.now _ c.in-len1-up.len_at_least c.slot-item.is
    (sym c.in-Open.is ∙ c.listed_filling.ensures ∙ ap (filling_of gr) c.as_slice.ensures)) ∙ c.loop-rest.invariant in
    subst (λ (meant : Reading). IfOk c.ask.result (λ reading. told gr reading ≡ meant)) is c.ask.ensures

pub loop-rest-preserved : goal.loop-rest-preserved
loop-rest-preserved g c =
    let gr = g.C.Commands.grammar c.args.commands.now in
    ap (λ chosen. settle gr c.args.action chosen (behind_first c.loop-rest.rest.now)) c.in_ok-push-in-Settled.ensures.items
    ∙ sym (settle_here gr c.args.action c.loop-rest.chosen.items c.slot-item.result c.loop-rest.rest.now _ c.in-len1-up.len_at_least c.slot-item.is
    (sym c.in-Settled.is ∙ c.listed_filling.ensures ∙ ap (filling_of gr) c.as_slice.ensures)) ∙ c.loop-rest.invariant

pub returns : goal.returns
returns g c =
    let gr = g.C.Commands.grammar c.args.commands.now in
    ap Acts (c.done_to.ensures ∙ ap (done_to c.args.action) c.as_slice-2.ensures.value)
    ∙ sym (settle_done gr c.args.action c.loop-rest.chosen.items c.loop-rest.rest.now c.in_default.len_below) ∙ c.loop-rest.invariant
