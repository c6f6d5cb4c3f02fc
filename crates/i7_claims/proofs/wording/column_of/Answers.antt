use Rattle.std.proofs.Common.{ap, ◌∙◌, List, Bool, arith}
use Rattle.i7_claims.specs.NameScans.{standing_at}
use Rattle.i7_claims.specs.Wording.{can_cut}
use Rattle.i7_claims.proofs.Columns.{column_more}
use Rattle.i7_claims.proofs.wording.column_of.Goals as goal

pub loop-place-preserved : goal.loop-place-preserved
loop-place-preserved c =
    let known = standing_at c.args.known.now in
    let before = c.loop-place.invariant in
    let can = c.in_ok-can.ensures ∙ ap (λ (column : List Bool). can_cut known c.args.is_joined column c.split_at.result.1.now) c.as_slice.ensures.value in
    let same = column_more known c.args.is_joined c.args.words.now c.loop-place.place c.loop-place.column.items c.in_ok-can.can c.split_at.result.1.now c.loop-place-test.true before.within before.same c.split_at.ensures.back can in
    record { within = omega (arith, before.within); same = c.in_ok-push-2.ensures.items ∙ same }
