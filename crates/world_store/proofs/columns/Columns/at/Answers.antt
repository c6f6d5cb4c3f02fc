use Rattle.std.proofs.Common.{[], ◌∙◌, ap, sym}
use Rattle.std.specs.Prelude.{slice_index_or}
use Rattle.world_store.specs.Rows.{read_at}
use Rattle.world_store.proofs.RowLemmas.{rows_read}
use Rattle.world_store.proofs.columns.Columns.at.Goals as goal

pub returns : goal.returns
returns g c =
    let t = c.self.inside in
    let p = c.args.property in
    let o = c.args.object in
    let d = c.args.otherwise in
    c.read_at.ensures ∙ ap (λ vs. read_at vs c.place_in-place.result d) c.as_slice.ensures.value ∙ ap (λ place. read_at t.values.items place d) c.place_in-place.ensures
    ∙ sym (rows_read t.height t.count t.values.items p o d) ∙ ap (λ columns. slice_index_or (slice_index_or columns p []) o d) c.self.view_is
