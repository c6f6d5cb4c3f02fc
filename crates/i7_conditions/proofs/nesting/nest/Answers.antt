use Rattle.std.proofs.Common.{◌≡◌, [], arith, None, Some, sym, ap, ◌∙◌, if◌then◌else◌, subst}
use Rattle.i7_conditions.specs.Levels.{levels_of, levels_on, nested, whole_if}
use Rattle.i7_conditions.specs.Nesting.{IsNested}
use Rattle.i7_conditions.proofs.Leveled.{line_kept, line_lost, none_left}
use Rattle.i7_conditions.proofs.Nested.{nested_is}
use Rattle.i7_conditions.proofs.nesting.nest.Goals as goal

pub returns-then-not-branch : goal.returns-then-not-branch
unfolding nested
returns-then-not-branch c =
    let none : None ≡ levels_on [] c.args.lines.items = line_lost _ _ _ c.in-Some.line _ c.in-Some.ensures.items c.loop-line.invariant (sym (ap (λ kept. if kept then Some (levels_of c.place.new.levels.items) else None) c.if-not-branch.true) ∙ c.in_ok-place.ensures) in
    subst (IsNested c.args.lines.items) (ap whole_if (sym none)) (nested_is c.args.lines.items)

pub loop-line-preserved : goal.loop-line-preserved
loop-line-preserved c = line_kept _ _ _ _ c.in-Some.line _ c.in-Some.ensures.items c.loop-line.invariant (sym (ap (λ kept. if kept then Some (levels_of c.place.new.levels.items) else None) c.if-not-branch.false) ∙ c.in_ok-place.ensures)

pub returns : goal.returns
unfolding nested
returns c =
    let none : c.loop-line.rest.items ≡ [] = none_left _ (omega (arith, c.loop-line.rest.ok, c.in_default.ensures.cases.0)) in
    let done : Some (levels_of c.loop-line.levels.items) ≡ levels_on [] c.args.lines.items = ap (levels_on (levels_of c.loop-line.levels.items)) (sym none) ∙ c.loop-line.invariant in
    subst (IsNested c.args.lines.items) (sym (c.whole.ensures ∙ ap whole_if done)) (nested_is c.args.lines.items)
