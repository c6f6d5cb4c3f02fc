use Rattle.std.proofs.Common.{[], ◌∷◌, ◌++◌, ap, arith, map, ◌∙◌}
use Rattle.std.specs.Prelude.{if◌then◌else◌}
use Rattle.command_parser.specs.Fillings.{is_candidate}
use Rattle.command_grammar.specs.Lines.{told_token}
use Rattle.command_parser.proofs.Places.{one_more_passes}
use Rattle.command_parser.proofs.listing.meant.Goals as goal

pub loop-number-preserved : goal.loop-number-preserved
loop-number-preserved g c =
    let p = is_candidate (g.C.Commands.grammar c.args.commands.now) (g.C.Commands.sees c.args.commands.now) (told_token c.args.slot) (map (λ word. word.now) c.args.noun.now) in
    one_more_passes p c.loop-number.number c.object_count-count.result c.loop-number.objects.items c.add_if.new.objects.items c.is_candidate-is_one.result (omega (arith, c.loop-number-test.true))
    (c.is_candidate-is_one.ensures ∙ ap p c.new-object.ensures) (c.in_ok-add_if.ensures ∙ ap (λ n. if c.is_candidate-is_one.result then c.loop-number.objects.items ++ n ∷ [] else c.loop-number.objects.items) c.new-object.ensures) ∙ c.loop-number.invariant
