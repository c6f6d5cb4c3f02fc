use Rattle.story_code.proofs.Joinings.{operators_step}
use Rattle.story_code.proofs.emitting.number.emit_operators.Goals as goal

pub loop-last-preserved : goal.loop-last-preserved
loop-last-preserved c = operators_step _ _ _ _ _ _ c.in-Some.last.now c.in-Some.ensures.cases.0 c.loop-last.invariant c.operator_code.ensures c.in_ok-push.ensures
