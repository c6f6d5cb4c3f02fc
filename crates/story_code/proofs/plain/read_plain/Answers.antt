use Rattle.std.proofs.Common.{◌∙◌, ap, refl, inl, inr, Ok}
use Rattle.story_code.proofs.Answered.{answered_step, broken_step, left_step, on_step}
use Rattle.story_code.proofs.Longer.{longer_on}
use Rattle.story_code.proofs.plain.read_plain.Goals as goal

pub loop-instruction-smaller : goal.loop-instruction-smaller
loop-instruction-smaller g c =
    (on_step (g.G.Ground.fixed c.args.ground.now) c.args.codes.now c.args.now.now (g.G.Ground.world c.args.ground.now) c.args.state.now c.args.text.now.items
    c.loop-instruction.state c.describe.new.state c.loop-instruction.text.items c.describe.new.text.items c.in-Some.instruction c.describe.result c.loop-instruction.invariant.0
    c.in-Some.ensures c.describe.ensures.step c.describe.ensures.small c.describe.ensures.same (c.in-Ok-On.is ∙ ap Ok c.in-Ok-On.field-0-is)).1

pub loop-instruction-preserved : goal.loop-instruction-preserved
loop-instruction-preserved g c = (
  (on_step (g.G.Ground.fixed c.args.ground.now) c.args.codes.now c.args.now.now (g.G.Ground.world c.args.ground.now) c.args.state.now c.args.text.now.items
      c.loop-instruction.state c.describe.new.state c.loop-instruction.text.items c.describe.new.text.items c.in-Some.instruction c.describe.result c.loop-instruction.invariant.0
      c.in-Some.ensures c.describe.ensures.step c.describe.ensures.small c.describe.ensures.same (c.in-Ok-On.is ∙ ap Ok c.in-Ok-On.field-0-is)).0,
  longer_on c.args.text.now.items c.loop-instruction.text.items c.describe.new.text.items c.loop-instruction.invariant.1 c.describe.ensures.longer,
)

pub returns-in-Ok-Left-clause-read : goal.returns-in-Ok-Left-clause-read
returns-in-Ok-Left-clause-read g c =
    inr (
      refl,
      left_step (g.G.Ground.fixed c.args.ground.now) c.args.codes.now c.args.now.now (g.G.Ground.world c.args.ground.now) c.args.state.now c.args.text.now.items
          c.loop-instruction.state c.describe.new.state c.loop-instruction.text.items c.describe.new.text.items c.in-Some.instruction c.describe.result c.loop-instruction.invariant.0
          c.in-Some.ensures c.describe.ensures.step (c.in-Ok-Left.is ∙ ap Ok c.in-Ok-Left.field-0-is),
    )

pub returns-in-Ok-Answered-clause-read : goal.returns-in-Ok-Answered-clause-read
returns-in-Ok-Answered-clause-read g c =
    inl (answered_step (g.G.Ground.fixed c.args.ground.now) c.args.codes.now c.args.now.now (g.G.Ground.world c.args.ground.now) c.args.state.now c.args.text.now.items
    c.loop-instruction.state c.describe.new.state c.loop-instruction.text.items c.describe.new.text.items c.in-Some.instruction c.describe.result c.in-Ok-Answered.truth c.loop-instruction.invariant.0
    c.in-Some.ensures c.describe.ensures.step (c.in-Ok-Answered.is ∙ ap Ok c.in-Ok-Answered.field-0-is))

pub returns-in-Err-clause-read : goal.returns-in-Err-clause-read
returns-in-Err-clause-read g c granted =
    broken_step (g.G.Ground.fixed c.args.ground.now) c.args.codes.now c.args.now.now (g.G.Ground.world c.args.ground.now) c.args.state.now c.args.text.now.items
    c.loop-instruction.state c.describe.new.state c.loop-instruction.text.items c.describe.new.text.items c.in-Some.instruction c.describe.result c.in-Err.reason c.loop-instruction.invariant.0
    c.in-Some.ensures c.describe.ensures.step c.in-Err.is granted
