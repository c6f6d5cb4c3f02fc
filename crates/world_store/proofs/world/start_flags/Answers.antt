use Rattle.std.proofs.Common.{◌≡◌, ◌+◌, ◌++◌, ◌-◌, ℕ, length, map, ap, arith, sym, ◌∙◌}
use Rattle.std.specs.List.{flat_map, range_with_len}
use Rattle.std.proofs.lemmas.List.{append-nil, length-map}
use Rattle.story_format.specs.InPlay.{start_flags, starts_true}
use Rattle.world_store.specs.Rows.{rows}
use Rattle.world_store.proofs.RowLemmas.{column_added, rows_made}
use Rattle.world_store.proofs.world.start_flags.Goals as goal

pub loop-property-init : goal.loop-property-init
loop-property-init c =
    let f = start_flags c.args.story.now in
    let count = c.flag_count-count.result in
    let all : count - 0 ≡ count = omega arith in
    ap (λ vs. vs ++ flat_map f (range_with_len 0 (count - 0))) c.new-flags.ensures.items ∙ ap (λ k. flat_map f (range_with_len 0 k)) all

pub loop-property-preserved : goal.loop-property-preserved
loop-property-preserved c =
    let f = start_flags c.args.story.now in
    let p = c.loop-property.property in
    let count = c.flag_count-count.result in
    let values = c.loop-property.flags.items in
    let more : c.extend_from_slice.new.self.items ≡ values ++ f p = c.in_ok-extend_from_slice.ensures.items ∙ ap (λ vs. values ++ vs) (c.as_slice.ensures.value ∙ c.in_ok-column.ensures) in
    ap (λ vs. vs ++ flat_map f (range_with_len (p + 1) (count - (p + 1)))) more
    ∙ column_added f values p count (omega (arith, c.loop-property-test.true)) ∙ c.loop-property.invariant

pub returns : goal.returns
returns c =
    let t = c.args.story.now in
    let f = start_flags t in
    let p = c.loop-property.property in
    let count = c.flag_count-count.result in
    let none : count - p ≡ 0 = omega (arith, c.loop-property-test.false) in
    let high : (i : ℕ) → length (f i) ≡ c.object_count.result = λ i. length-map t.objects (starts_true i) ∙ sym c.object_count.ensures.count in
    let whole : c.loop-property.flags.items ≡ flat_map f (range_with_len 0 count) =
    sym (append-nil c.loop-property.flags.items) ∙ ap (λ k. c.loop-property.flags.items ++ flat_map f (range_with_len p k)) (sym none) ∙ c.loop-property.invariant in
    c.new.ensures ∙ ap (λ vs. rows c.object_count.result count vs) whole ∙ rows_made f c.object_count.result 0 count high ∙ ap (λ n. map f (range_with_len 0 n)) c.flag_count-count.ensures
