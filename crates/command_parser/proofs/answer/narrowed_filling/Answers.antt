use Rattle.std.proofs.Common.{map}
use Rattle.command_parser.specs.Fillings.{is_meant}
use Rattle.command_parser.proofs.Filters.{some_pass}
use Rattle.command_parser.proofs.answer.narrowed_filling.Goals as goal

pub returns-in-Some : goal.returns-in-Some
returns-in-Some g c =
    let gr = g.C.Commands.grammar c.args.commands.now in
    some_pass gr (is_meant gr (map (λ word. word.now) c.args.noun.now)) c.args.objects.now _ c.in-Some.first c.are_alike.result c.filling_by.result
    c.first_meant.ensures c.in-Some.is c.are_alike.ensures c.filling_by.ensures
