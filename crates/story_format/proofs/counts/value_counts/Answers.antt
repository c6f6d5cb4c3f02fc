use Rattle.story_format.specs.Counts.{value_counts}
use Rattle.story_format.proofs.CountLemmas.{all_put}
use Rattle.story_format.proofs.counts.value_counts.Goals as goal

pub returns : goal.returns
unfolding value_counts
returns c = all_put 100 c.loop-rest.counts c.loop-rest.place c.loop-rest.rest.now c.args.values.now c.in_default.len_below c.loop-rest.invariant.same
