use Rattle.std.proofs.Common.{sym, subst}
use Rattle.play_meaning.specs.declared.instruction.Instruction.{Instruction}
use Rattle.story_code.specs.Runs.{Leads}
use Rattle.story_code.specs.declared.came.Came.TheVariants.{On}
use Rattle.story_code.proofs.telling.go_on.Goals as goal

pub returns-in_ok-say_passing-in-Names-clause-step : goal.returns-in_ok-say_passing-in-Names-clause-step
returns-in_ok-say_passing-in-Names-clause-step g c =
    subst (λ (i : Instruction). Leads (g.G.Ground.fixed c.args.ground.now) c.args.codes.now c.args.now.now (g.G.Ground.world c.args.ground.now) i c.args.state.now c.args.text.now.items On
    c.say_passing.new.state c.say_passing.new.text.items) (sym c.in-Names.is) c.in_ok-say_passing-in-Names.ensures.step
