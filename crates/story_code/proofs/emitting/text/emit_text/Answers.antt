use Rattle.story_code.proofs.Texts.{parts_end, parts_step}
use Rattle.story_code.proofs.emitting.text.emit_text.Goals as goal

pub loop-rest-preserved : goal.loop-rest-preserved
loop-rest-preserved c = parts_step _ _ _ _ _ c.loop-rest.rest.now _ c.in-len1-up.len_at_least c.part-item.is c.loop-rest.invariant c.in_ok-emit_said.ensures

pub returns : goal.returns
returns c = parts_end _ _ _ _ c.loop-rest.rest.now c.in_default.len_below c.fits.ensures.settled c.loop-rest.invariant
