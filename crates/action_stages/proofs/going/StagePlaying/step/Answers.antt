use Rattle.std.proofs.Common.{◌≡◌, ℕ, subst, sym}
use Rattle.play_meaning.specs.Machines.{Abandons}
use Rattle.story_code.specs.Runs.{MayDo, Standing}
use Rattle.action_stages.specs.Bodies.{step_at}
use Rattle.world_store.specs.StoryPlay.{coded_story}
use Rattle.action_stages.proofs.OneStep.{stands_behind}
use Rattle.action_stages.proofs.going.StagePlaying.step.Goals as goal

pub step_kept-requires-clause-stands : goal.step_kept-requires-clause-stands
step_kept-requires-clause-stands g c = subst (λ (s : Standing). MayDo c.args.codes.now s) (sym c.set_work.ensures) (stands_behind c.args.codes.now c.args.state.now c.units.result
    c.requires.stands)

pub returns-in-Err-clause-step : goal.returns-in-Err-clause-step
returns-in-Err-clause-step g c = λ other inner.
    let world = c.args.self.now.world in
    let text = c.args.self.now.text.items in
    let behind : step_at (coded_story world.tables) c.args.now.now inner c.args.state.now (record { world = world.world; text = text; work = c.units.result }) ≡ Abandons c.in-Err.reason
    = subst (λ (s : Standing). step_at (coded_story world.tables) c.args.now.now inner s (record { world = world.world; text = text; work = s.work }) ≡ Abandons c.in-Err.reason)
    c.set_work.ensures (c.in-Err.ensures.step other inner) in
    subst (λ (work : ℕ). step_at (coded_story world.tables) c.args.now.now inner c.args.state.now (record { world = world.world; text = text; work = work }) ≡ Abandons c.in-Err.reason)
    c.units.ensures.units behind
