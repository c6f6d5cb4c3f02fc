use Rattle.std.proofs.Common.{sym, ◌∙◌}
use Rattle.story_code.proofs.Followed.{said_step, said_stop}
use Rattle.story_code.proofs.emitting.output.can_say.Goals as goal

pub loop-rest-preserved : goal.loop-rest-preserved
loop-rest-preserved c = said_step _ _ c.loop-rest.rest.now _ _ c.in-len1-up.len_at_least c.loop-rest.invariant (sym c.place_behind.ensures ∙ c.in-Some.is)

pub returns-in-None : goal.returns-in-None
returns-in-None c = said_stop _ c.loop-rest.rest.now _ _ c.in-len1-up.len_at_least c.loop-rest.invariant (sym c.place_behind.ensures ∙ c.in-None.is)
