use Rattle.std.proofs.Common.{◌∙◌, ap, refl, sym}
use Rattle.std.specs.Prelude.{replicate}
use Rattle.play_meaning.specs.Worlds.{not_begun}
use Rattle.world_store.proofs.Keeping.{kept_begun}
use Rattle.world_store.proofs.Pasts.{kept_without_past}
use Rattle.world_store.proofs.world.World.start.Goals as goal

pub invariant_of-result : goal.invariant_of-result
invariant_of-result c =
    kept_without_past c.in_ok-atlas.atlas.value c.in_ok-atlas.atlas.value _ _ c.new-log.result refl refl c.new-log.ensures
    (kept_begun c.as_ref-told.result.now c.in_ok-atlas.atlas.value _ _ _ _ _ _
    (c.in_ok-atlas.ensures.ok ∙ c.in_ok-new.ensures ∙ sym c.as_ref-told.ensures) c.in_ok-tree.ensures.tree c.in_ok-flags.ensures c.in_ok-numbers.ensures c.in_ok-values.ensures c.in_ok-variables.ensures
    (c.in_ok-scenes.ensures.items_if_clones_equal (λ y same. same) ∙ ap (λ n. replicate n not_begun) c.scene_count.ensures.count)
    c.in_ok-tree.ensures.story)
