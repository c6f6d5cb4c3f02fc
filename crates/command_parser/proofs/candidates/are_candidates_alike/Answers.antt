use Rattle.std.proofs.Common.{◌≡◌, ◌+◌, ◌-◌, Bool, true, ap, arith, map, sym, ◌∙◌}
use Rattle.std.specs.Prelude.{◌&&◌}
use Rattle.std.specs.List.{list_all, range_with_len}
use Rattle.command_parser.specs.Fillings.{is_alike_if, is_candidate}
use Rattle.command_grammar.specs.Lines.{told_token}
use Rattle.command_parser.proofs.Places.{all_from_here}
use Rattle.command_parser.proofs.candidates.are_candidates_alike.Goals as goal

pub loop-number-preserved : goal.loop-number-preserved
loop-number-preserved g c =
    let p = is_alike_if (g.C.Commands.grammar c.args.commands.now) (is_candidate (g.C.Commands.grammar c.args.commands.now) (g.C.Commands.sees c.args.commands.now) (told_token c.args.slot) (map (λ word. word.now) c.args.noun.now)) c.args.first in
    let n = c.loop-number.number in
    let count = c.object_count-count.result in
    let holds : p n ≡ true = ap p (sym c.new-object.ensures) ∙ sym c.is_alike.ensures ∙ c.if-not-is_alike.false in
    sym (ap (λ (v : Bool). v && list_all p (range_with_len (n + 1) (count - (n + 1)))) holds)
    ∙ sym (all_from_here p n count (omega (arith, c.loop-number-test.true))) ∙ c.loop-number.invariant
