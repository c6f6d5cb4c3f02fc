use Rattle.std.proofs.Common.{ℕ, ap, ◌∙◌, refl, List, arith}
use Rattle.std.specs.Prelude.{Option}
use Rattle.i7_conditions.specs.Joining.{column_of, entry}
use Rattle.i7_conditions.specs.Scopes.{scope_of}
use Rattle.i7_conditions.proofs.Columns.{column_more}
use Rattle.i7_conditions.proofs.joining.column_of.Goals as goal

pub loop-place-preserved : goal.loop-place-preserved
loop-place-preserved c =
    let s = scope_of c.args.scope.now in
    let before = c.loop-place.invariant in
    let here = c.in_ok-count.ensures ∙ ap (λ (column : List (Option ℕ)). entry s column c.split_at.result.1.now) c.as_slice.ensures.value in
    let same = column_more (column_of s) (λ words column. entry s column words) (λ word words. refl) c.args.words.now c.loop-place.place c.loop-place.column.items c.in_ok-count.count c.split_at.result.1.now c.loop-place-test.true before.within before.same c.split_at.ensures.back here in
    record { within = omega (arith, before.within); same = c.in_ok-push.ensures.items ∙ same }
