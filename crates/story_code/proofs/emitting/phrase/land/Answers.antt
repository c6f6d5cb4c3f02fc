use Rattle.story_code.proofs.Landed.{land_step}
use Rattle.story_code.proofs.emitting.phrase.land.Goals as goal

pub loop-leap-preserved : goal.loop-leap-preserved
loop-leap-preserved c = land_step _ _ _ _ _ _ _ c.in-Some.leap.now c.in-Some.ensures.cases.0 c.loop-leap.invariant c.aim.ensures c.aim-in-Some.ensures
