use Rattle.std.proofs.Common.{sym, subst, Ok}
use Rattle.play_meaning.specs.declared.instruction.Instruction.{Instruction}
use Rattle.story_code.specs.Steps.{CarriesOn}
use Rattle.story_code.proofs.body.carry_on.Goals as goal

pub returns-in_ok-turn-in-Next-clause-step : goal.returns-in_ok-turn-in-Next-clause-step
returns-in_ok-turn-in-Next-clause-step g c inner =
    let fixed = g.G.Ground.fixed c.args.ground.now in
    let w = g.G.Ground.world c.args.ground.now in
    let text = c.args.text.now.items in
    subst (λ (i : Instruction). CarriesOn fixed c.args.codes.now c.args.now.now w i c.args.state.now text (Ok c.in_ok-turn-in-Next.field-0) w c.turn.new.state text) (sym c.in-Next.is)
    (c.in_ok-turn-in-Next.ensures.step text) inner
