use Rattle.std.proofs.Common.{◌∙◌, arith}
use Rattle.i7_conditions.proofs.Leveled.{raised_one}
use Rattle.i7_conditions.proofs.nesting.raise.Goals as goal

pub loop-alloc-preserved : goal.loop-alloc-preserved
loop-alloc-preserved c = λ step.
    raised_one c.args.depth _ _ _ step c.in_ok-push.ensures.items c.no_level.ensures (omega (arith, c.loop-alloc-test.true, c.len.ensures, c.loop-alloc.levels.ok)) ∙ c.loop-alloc.invariant step
