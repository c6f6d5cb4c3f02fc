use Rattle.std.proofs.Common.{◌<◌, ap, ◌∙◌, refl, List, arith, inl, inr}
use Rattle.i7_conditions.specs.Fronts.{column_of, step_at}
use Rattle.i7_conditions.specs.Scopes.{scope_of}
use Rattle.i7_conditions.specs.declared.front.Step.{Step}
use Rattle.i7_conditions.proofs.Columns.{column_more}
use Rattle.i7_conditions.proofs.Stopped.{few_as, stopped_as, stopped_told}
use Rattle.i7_conditions.proofs.front.column_of.Goals as goal
use Rattle.i7_conditions.proofs.front.column_of.Goals.{then-loop-place-test+else-stops-le-MOST_WORDS, else-loop-place-test}

pub loop-place-preserved : goal.loop-place-preserved
loop-place-preserved c =
    let s = scope_of c.args.scope.now in
    let before = c.loop-place.invariant in
    let here = c.in_ok-step.ensures ∙ ap (λ (column : List Step). step_at s c.split_at.result.1.now column) c.as_slice.ensures.value in
    let some : 0 < c.loop-place.place = omega arith in
    let same = column_more (column_of s) (step_at s) (λ word words. refl) c.args.words.now c.loop-place.place c.loop-place.column.items c.in_ok-step.step c.split_at.result.1.now some before.within before.same c.split_at.ensures.back here in
    let column = c.in_ok-stops.ensures.column in
    let stops = c.in_ok-stops.ensures.stops in
    record {
      within = omega (arith, before.within);
      same = column ∙ same;
      stopped = stopped_as c.loop-place.column.items c.add_step.new.column.items c.loop-place.stops c.in_ok-stops.stops c.in_ok-step.step before.stopped column stops;
      few = few_as c.loop-place.column.items c.add_step.new.column.items c.loop-place.stops c.in_ok-stops.stops c.in_ok-step.step before.few column stops;
    }

pub returns : goal.returns
returns c =
    let h = c.loop-place.invariant in
    let told = stopped_told (scope_of c.args.scope.now) c.args.words.now c.loop-place.place c.loop-place.stops c.loop-place.column.items h.within h.same h.stopped h.few in
    elim c.loop-place-test.branch [
      | then-loop-place-test+else-stops-le-MOST_WORDS w ↦ told (inr (omega arith))
      | else-loop-place-test w ↦ told (inl (omega arith))
    ]
