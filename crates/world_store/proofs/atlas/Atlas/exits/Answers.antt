use Rattle.std.proofs.Common.{◌∙◌, ap}
use Rattle.std.specs.Prelude.{None, slice_index_or}
use Rattle.story_format.specs.InPlay.{exits_of}
use Rattle.world_store.proofs.Atlases.{found_at}
use Rattle.world_store.proofs.atlas.Atlas.exits.Goals as goal

pub returns : goal.returns
returns c =
    let room = c.args.room in
    c.exits_in.ensures ∙ ap (λ table. slice_index_or table room None) (c.as_slice.ensures.value ∙ c.self.invariant)
    ∙ found_at c.self.inside.story.value room ∙ ap (λ t. exits_of t room) c.self.view_is
