use Rattle.std.proofs.Common.{◌∙◌, ap, arith, ℕ, ◌+◌, ◌-◌, ◌++◌, ◌∷◌, [], map}
use Rattle.std.specs.List.{range_with_len}
use Rattle.rule_order.proofs.BookLemmas.{one_more}
use Rattle.i7_conditions.specs.Scopes.{scope_of}
use Rattle.story_file.specs.Lines.{line_of_scene}
use Rattle.story_file.proofs.lines.scene_lines.Goals as goal

pub loop-number-preserved : goal.loop-number-preserved
loop-number-preserved c =
    let number = c.loop-number.number in
    let f : ℕ → ℕ = line_of_scene (scope_of c.args.scope.now) c.args.sentences.now in
    ap (λ xs. xs ++ map f (range_with_len (number + 1) (c.args.count - (number + 1)))) (c.in_ok-push.ensures.items ∙ ap (λ line. c.loop-number.lines.items ++ line ∷ []) c.in_ok-line_of_scene.ensures)
    ∙ one_more f c.loop-number.lines.items number c.args.count (omega (arith, c.loop-number-test.true)) ∙ c.loop-number.invariant
