use Rattle.story_code.proofs.Joinings.{terms_step}
use Rattle.story_code.proofs.emitting.number.emit_terms.Goals as goal

pub loop-rest-preserved : goal.loop-rest-preserved
loop-rest-preserved c = terms_step _ _ _ _ c.loop-rest.rest.now _ c.in-len1-up.len_at_least c.first-item.is c.loop-rest.invariant c.in_ok-emit_term.ensures
