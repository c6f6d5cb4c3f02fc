use Rattle.story_code.proofs.Followed.{these_step}
use Rattle.story_code.proofs.emitting.output.Output.append.Goals as goal

pub loop-rest-preserved : goal.loop-rest-preserved
loop-rest-preserved c = these_step _ _ _ c.loop-rest.rest.now _ c.in-len1-up.len_at_least c.loop-rest.invariant c.in_ok-push.ensures
