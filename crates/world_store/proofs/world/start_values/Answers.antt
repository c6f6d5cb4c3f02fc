use Rattle.std.proofs.Common.{◌≡◌, ◌+◌, ◌++◌, ◌-◌, ℕ, length, map, ap, arith, sym, ◌∙◌}
use Rattle.std.specs.List.{flat_map, range_with_len}
use Rattle.std.proofs.lemmas.List.{append-nil}
use Rattle.story_format.specs.InPlay.{start_values}
use Rattle.world_store.specs.Rows.{rows}
use Rattle.world_store.proofs.Keeping.{length_values}
use Rattle.world_store.proofs.RowLemmas.{column_added, rows_made}
use Rattle.world_store.proofs.world.start_values.Goals as goal

pub loop-kind-init : goal.loop-kind-init
loop-kind-init c =
    let f = start_values c.args.story.now in
    let count = c.value_kind_count-count.result in
    let all : count - 0 ≡ count = omega arith in
    ap (λ vs. vs ++ flat_map f (range_with_len 0 (count - 0))) c.new-values.ensures.items ∙ ap (λ k. flat_map f (range_with_len 0 k)) all

pub loop-kind-preserved : goal.loop-kind-preserved
loop-kind-preserved c =
    let f = start_values c.args.story.now in
    let p = c.loop-kind.kind in
    let count = c.value_kind_count-count.result in
    let values = c.loop-kind.values.items in
    let more : c.extend_from_slice.new.self.items ≡ values ++ f p = c.in_ok-extend_from_slice.ensures.items ∙ ap (λ vs. values ++ vs) (c.as_slice.ensures.value ∙ c.in_ok-column.ensures) in
    ap (λ vs. vs ++ flat_map f (range_with_len (p + 1) (count - (p + 1)))) more
    ∙ column_added f values p count (omega (arith, c.loop-kind-test.true)) ∙ c.loop-kind.invariant

pub returns : goal.returns
returns c =
    let t = c.args.story.now in
    let f = start_values t in
    let p = c.loop-kind.kind in
    let count = c.value_kind_count-count.result in
    let none : count - p ≡ 0 = omega (arith, c.loop-kind-test.false) in
    let high : (i : ℕ) → length (f i) ≡ c.object_count.result = λ i. length_values t i t.objects t.values.objects ∙ sym c.object_count.ensures.count in
    let whole : c.loop-kind.values.items ≡ flat_map f (range_with_len 0 count) =
    sym (append-nil c.loop-kind.values.items) ∙ ap (λ k. c.loop-kind.values.items ++ flat_map f (range_with_len p k)) (sym none) ∙ c.loop-kind.invariant in
    c.new.ensures ∙ ap (λ vs. rows c.object_count.result count vs) whole ∙ rows_made f c.object_count.result 0 count high ∙ ap (λ n. map f (range_with_len 0 n)) c.value_kind_count-count.ensures.count
