use Rattle.std.proofs.Common.{ap, map, sym, ◌∙◌}
use Rattle.std.specs.Prelude.{filter}
use Rattle.play_meaning.specs.Settings.{objects_of}
use Rattle.command_parser.specs.Fillings.{is_candidate}
use Rattle.command_grammar.specs.Lines.{told_token}
use Rattle.command_parser.proofs.Filters.{candidates_are}
use Rattle.command_parser.proofs.listing.listed.Goals as goal

pub returns : goal.returns
returns g c =
    let gr = g.C.Commands.grammar c.args.commands.now in
    let sees = g.C.Commands.sees c.args.commands.now in
    c.in_ok-meant.ensures ∙ ap (λ noun. filter (is_candidate gr sees (told_token c.args.slot) noun) (objects_of gr.setting)) c.noun_of.ensures
    ∙ sym (candidates_are gr sees (told_token c.args.slot) (map (λ word. word.now) c.args.phrase.now))
