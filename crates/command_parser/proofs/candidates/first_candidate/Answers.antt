use Rattle.std.proofs.Common.{◌≡◌, ◌+◌, ◌-◌, Bool, false, ap, arith, map, sym, ◌∙◌}
use Rattle.std.specs.Prelude.{Some, find, if◌then◌else◌}
use Rattle.std.specs.List.{range_with_len}
use Rattle.command_parser.specs.Fillings.{is_candidate}
use Rattle.command_grammar.specs.Lines.{told_token}
use Rattle.command_parser.proofs.Places.{from_here}
use Rattle.command_parser.proofs.candidates.first_candidate.Goals as goal

pub loop-number-preserved : goal.loop-number-preserved
loop-number-preserved g c =
    let p = is_candidate (g.C.Commands.grammar c.args.commands.now) (g.C.Commands.sees c.args.commands.now) (told_token c.args.slot) (map (λ word. word.now) c.args.noun.now) in
    let n = c.loop-number.number in
    let count = c.object_count-count.result in
    let fails : p n ≡ false = ap p (sym c.new-object.ensures) ∙ sym c.is_candidate.ensures ∙ c.if-is_candidate.false in
    sym (ap (λ (v : Bool). if v then Some n else find p (range_with_len (n + 1) (count - (n + 1)))) fails)
    ∙ sym (from_here p n count (omega (arith, c.loop-number-test.true))) ∙ c.loop-number.invariant
