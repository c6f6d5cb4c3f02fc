use Rattle.std.proofs.Common.{refl}
use Rattle.story_code.proofs.TestsNamed.{all_together, below_next, together_or_not}
use Rattle.story_code.proofs.together.are_sound_together.Goals as goal

pub returns-then-not-stands_rightly : goal.returns-then-not-stands_rightly
returns-then-not-stands_rightly c = together_or_not c.args.codes.now c.loop-number.number c.if-not-stands_rightly.ensures

pub loop-number-preserved : goal.loop-number-preserved
loop-number-preserved c = below_next c.args.codes.now c.loop-number.number c.loop-number.invariant (c.if-not-stands_rightly.ensures.0 refl)

pub returns : goal.returns
returns c = all_together c.args.codes.now c.loop-number.number c.loop-number-test.false c.loop-number.invariant
