use Rattle.std.proofs.Common.{[], ◌∙◌, ap}
use Rattle.std.specs.Prelude.{slice_index_or, slice_set}
use Rattle.world_store.specs.Rows.{rows, write_at}
use Rattle.world_store.proofs.RowLemmas.{rows_written}
use Rattle.world_store.proofs.columns.Columns.set.Goals as goal

pub returns : goal.returns
returns g c =
    let t = c.self.inside in
    let p = c.args.property in
    let o = c.args.object in
    let x = c.args.value in
    ap (λ vs. rows t.height t.count vs) (c.write_at.ensures ∙ ap (λ place. write_at t.values.items place x) c.place_in-place.ensures)
    ∙ rows_written t.height t.count t.values.items p o x ∙ ap (λ columns. slice_set columns p (slice_set (slice_index_or columns p []) o x)) c.self.view_is
