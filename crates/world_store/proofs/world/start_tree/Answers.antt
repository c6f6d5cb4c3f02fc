use Rattle.std.proofs.Common.{◌∙◌}
use Rattle.world_store.proofs.Keeping.{few_places, holders_of, tree_of}
use Rattle.world_store.proofs.world.start_tree.Goals as goal

pub from_places-requires-clause-few : goal.from_places-requires-clause-few
from_places-requires-clause-few c = few_places c.as_slice.result.now c.args.story.now (c.as_slice.ensures.value ∙ c.in_ok-places.ensures.places) c.in_ok-places.ensures.story

pub from_places-requires-clause-holders : goal.from_places-requires-clause-holders
from_places-requires-clause-holders c = holders_of c.as_slice.result.now c.args.story.now (c.as_slice.ensures.value ∙ c.in_ok-places.ensures.places) c.in_ok-places.ensures.story

pub from_places-requires-clause-tree : goal.from_places-requires-clause-tree
from_places-requires-clause-tree c = tree_of c.as_slice.result.now c.args.story.now (c.as_slice.ensures.value ∙ c.in_ok-places.ensures.places) c.in_ok-places.ensures.story
