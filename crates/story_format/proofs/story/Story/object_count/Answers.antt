use Rattle.story_format.proofs.Beginnings.{stories_few}
use Rattle.story_format.proofs.story.Story.object_count.Goals as goal

pub returns-clause-few : goal.returns-clause-few
returns-clause-few c = rw (c.as_slice.ensures) (stories_few _ c.self.invariant.story)
