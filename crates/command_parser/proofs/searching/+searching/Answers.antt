use Rattle.std.proofs.Common.{ap, sym, ◌∙◌, map}
use Rattle.std.specs.Prelude.{Some}
use Rattle.std.specs.Option.{option_map}
use Rattle.play_meaning.specs.Grammar.{candidates}
use Rattle.command_parser.specs.Searching.{first_filled}
use Rattle.command_parser.specs.Settling.{outcome_of}
use Rattle.command_grammar.specs.Lines.{told_token}
use Rattle.command_parser.specs.Tokens.{tokens_from}
use Rattle.command_parser.proofs.Filters.{no_candidate, some_later}
use Rattle.command_parser.proofs.SlotSteps.{found_later, found_now, here, one_step}
use Rattle.command_parser.proofs.Unfit.{none_behind}
use Rattle.command_parser.proofs.searching.+searching.Goals as goal

pub search-returns-in-None : goal.search-returns-in-None
search-returns-in-None g t c =
    let gr = g.C.Commands.grammar c.args.commands.now in
    let sees = g.C.Commands.sees c.args.commands.now in
    c.search_end.ensures gr sees ∙ ap (λ ts. option_map (outcome_of gr c.args.now.now) (first_filled gr sees ts (map (λ word. word.now) c.args.words.now))) (sym c.in-None.ensures)

pub search_slot-returns-then-is_some : goal.search_slot-returns-then-is_some
search_slot-returns-then-is_some g t c =
    let gr = g.C.Commands.grammar c.args.commands.now in
    let sees = g.C.Commands.sees c.args.commands.now in
    let means = candidates gr sees (told_token c.args.slot) in
    let behind = first_filled gr sees (tokens_from gr c.args.line c.args.after) in
    let words = c.args.words.now in
    let rest = c.loop-rest.rest.now in
    let step = one_step (λ word. word.now) (outcome_of gr c.args.now.now) means behind words c.loop-rest.count rest c.in-len1-up.len_at_least c.loop-rest.invariant.counted c.loop-rest.invariant.parted in
    sym (found_now c.search_phrase-found.result _ (sym c.is_some.ensures ∙ c.if-is_some.true))
    ∙ sym (here (λ word. word.now) (outcome_of gr c.args.now.now) means behind words c.loop-rest.count rest _ _ step c.split_at.ensures.front c.search_phrase-found.ensures) ∙ c.loop-rest.invariant.same

pub search_slot-loop-rest-preserved : goal.search_slot-loop-rest-preserved
search_slot-loop-rest-preserved g t c =
    let gr = g.C.Commands.grammar c.args.commands.now in
    let sees = g.C.Commands.sees c.args.commands.now in
    let means = candidates gr sees (told_token c.args.slot) in
    let behind = first_filled gr sees (tokens_from gr c.args.line c.args.after) in
    let words = c.args.words.now in
    let rest = c.loop-rest.rest.now in
    let step = one_step (λ word. word.now) (outcome_of gr c.args.now.now) means behind words c.loop-rest.count rest c.in-len1-up.len_at_least c.loop-rest.invariant.counted c.loop-rest.invariant.parted in
    record {
      counted = step.counted;
      parted = step.parted;
      same =
          sym (found_later c.search_phrase-found.result _ (sym c.is_some.ensures ∙ c.if-is_some.false))
          ∙ sym (here (λ word. word.now) (outcome_of gr c.args.now.now) means behind words c.loop-rest.count rest _ _ step c.split_at.ensures.front c.search_phrase-found.ensures) ∙ c.loop-rest.invariant.same;
    }

pub search_phrase-returns-then-not-fits : goal.search_phrase-returns-then-not-fits
search_phrase-returns-then-not-fits g t c =
    let gr = g.C.Commands.grammar c.args.commands.now in
    let sees = g.C.Commands.sees c.args.commands.now in
    ap (option_map (outcome_of gr c.args.now.now))
    (none_behind gr sees (candidates gr sees (told_token c.args.slot) (map (λ word. word.now) c.args.phrase.now)) (tokens_from gr c.args.line c.args.after) (map (λ word. word.now) c.args.behind.now)
    (sym c.fits.ensures ∙ c.if-not-fits.true))

pub search_phrase-returns-in-None : goal.search_phrase-returns-in-None
search_phrase-returns-in-None g t c =
    let gr = g.C.Commands.grammar c.args.commands.now in
    let sees = g.C.Commands.sees c.args.commands.now in
    no_candidate gr sees c.args.now.now (told_token c.args.slot) (map (λ word. word.now) c.args.phrase.now) _ c.noun_of-noun.ensures
    (first_filled gr sees (tokens_from gr c.args.line c.args.after) (map (λ word. word.now) c.args.behind.now)) _ c.first_candidate.ensures c.in-None.is

pub search_phrase-returns-in-Some-search : goal.search_phrase-returns-in-Some-search
search_phrase-returns-in-Some-search g t c =
    let gr = g.C.Commands.grammar c.args.commands.now in
    let sees = g.C.Commands.sees c.args.commands.now in
    let behind = first_filled gr sees (tokens_from gr c.args.line c.args.after) (map (λ word. word.now) c.args.behind.now) in
    ap Some c.asks_unless.ensures
    ∙ some_later gr sees c.args.now.now (told_token c.args.slot) (map (λ word. word.now) c.args.phrase.now) _ c.noun_of-noun.ensures behind _ c.first_candidate.ensures
    c.in-Some.first c.are_candidates_alike-alike.result c.in-Some-search.later c.search.result c.in-Some.is c.are_candidates_alike-alike.ensures
    (c.search.ensures ∙ ap (λ next. option_map (outcome_of gr next) behind) c.with_noun-next.ensures) c.in-Some-search.is
