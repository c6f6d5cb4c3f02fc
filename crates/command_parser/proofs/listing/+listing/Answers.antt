use Rattle.std.proofs.Common.{ap, sym, ◌∙◌, map}
use Rattle.std.specs.Option.{option_map}
use Rattle.play_meaning.specs.Grammar.{candidates}
use Rattle.command_parser.specs.Searching.{first_filled}
use Rattle.command_grammar.specs.Lines.{told_token}
use Rattle.command_parser.specs.Tokens.{tokens_from}
use Rattle.command_parser.proofs.SlotSteps.{found_so, listed_here, none_so, one_step}
use Rattle.command_parser.proofs.Unfit.{none_behind}
use Rattle.command_parser.proofs.listing.+listing.Goals as goal

pub slots-returns-in-None : goal.slots-returns-in-None
slots-returns-in-None g t c =
    let gr = g.C.Commands.grammar c.args.commands.now in
    let sees = g.C.Commands.sees c.args.commands.now in
    c.no_slots.ensures gr sees ∙ ap (λ ts. first_filled gr sees ts (map (λ word. word.now) c.args.words.now)) (sym c.in-None.ensures)

pub slot_slots-returns-in-Some : goal.slot_slots-returns-in-Some
slot_slots-returns-in-Some g t c =
    let gr = g.C.Commands.grammar c.args.commands.now in
    let sees = g.C.Commands.sees c.args.commands.now in
    let means = candidates gr sees (told_token c.args.slot) in
    let behind = first_filled gr sees (tokens_from gr c.args.line c.args.after) in
    let e = listed_here (λ word. word.now) means behind c.args.words.now c.loop-rest.count c.loop-rest.rest.now _ _
    c.in-len1-up.len_at_least c.loop-rest.invariant.counted c.loop-rest.invariant.parted c.split_at.ensures.front c.in_ok-found.ensures in
    found_so _ _ _ _ e (ap (option_map (λ slots. slots.items)) c.in-Some.is) ∙ c.loop-rest.invariant.same

pub slot_slots-loop-rest-preserved : goal.slot_slots-loop-rest-preserved
slot_slots-loop-rest-preserved g t c =
    let gr = g.C.Commands.grammar c.args.commands.now in
    let sees = g.C.Commands.sees c.args.commands.now in
    let means = candidates gr sees (told_token c.args.slot) in
    let behind = first_filled gr sees (tokens_from gr c.args.line c.args.after) in
    let step = one_step (λ word. word.now) (λ slots. slots) means behind c.args.words.now c.loop-rest.count c.loop-rest.rest.now
    c.in-len1-up.len_at_least c.loop-rest.invariant.counted c.loop-rest.invariant.parted in
    let e = listed_here (λ word. word.now) means behind c.args.words.now c.loop-rest.count c.loop-rest.rest.now _ _
    c.in-len1-up.len_at_least c.loop-rest.invariant.counted c.loop-rest.invariant.parted c.split_at.ensures.front c.in_ok-found.ensures in
    record { counted = step.counted; parted = step.parted; same = none_so _ _ _ e (ap (option_map (λ slots. slots.items)) c.in-None.is) ∙ c.loop-rest.invariant.same }

pub phrase_slots-returns-then-not-fits : goal.phrase_slots-returns-then-not-fits
phrase_slots-returns-then-not-fits g t c =
    let gr = g.C.Commands.grammar c.args.commands.now in
    let sees = g.C.Commands.sees c.args.commands.now in
    none_behind gr sees (candidates gr sees (told_token c.args.slot) (map (λ word. word.now) c.args.phrase.now)) (tokens_from gr c.args.line c.args.after) (map (λ word. word.now) c.args.behind.now)
    (sym c.fits.ensures ∙ c.if-not-fits.true)
