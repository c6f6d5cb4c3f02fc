use Rattle.std.proofs.Common.{ap, subst, sym}
use Rattle.play_meaning.specs.Worlds.{World}
use Rattle.story_code.specs.Steps.{LeadsBack}
use Rattle.world_store.specs.StorySettings.{fixed_of}
use Rattle.world_store.specs.StoryWorlds.{StoryWorld}
use Rattle.action_stages.specs.Bodies.{StepsSo}
use Rattle.world_store.specs.StoryPlay.{coded_story}
use Rattle.action_stages.proofs.OneStep.{all_bound, described_by, steps_so, work_within}
use Rattle.action_stages.proofs.Returning.{led_behind}
use Rattle.action_stages.proofs.stepping.step_kept.Goals as goal

pub step_plain-came-requires-clause-described : goal.step_plain-came-requires-clause-described
step_plain-came-requires-clause-described c = described_by c.args.world.now.tables c.args.codes.now c.requires.told

pub bind-requires : goal.bind-requires
bind-requires c = record {
  kept = all_bound c.args.world.now c.step_plain-came.new.ground c.in-Ok.bound c.args.codes.now c.args.now.now c.args.state.now c.step_plain-came.new.state
      c.args.text.now.items c.step_plain-came.new.text.items c.step_plain-came.result c.in-Ok.ensures c.step_plain-came.ensures.step c.worlds_are_whole.ensures
      c.worlds_are_whole-2.ensures c.step_plain-came.ensures.fixed c.step_plain-came.ensures.kept c.step_plain-came.ensures.past;
}

pub returns-clause-behind : goal.returns-clause-behind
returns-clause-behind c =
    led_behind c.args.world.now c.bind.new.self
    (subst (λ (v : StoryWorld). LeadsBack c.args.world.now.world c.args.world.now.past v.world v.past) (sym c.bind.ensures) c.step_plain-came.ensures.past)

pub returns-clause-step : goal.returns-clause-step
returns-clause-step c =
    subst (λ (v : World). StepsSo (coded_story c.args.world.now.tables) c.args.now.now c.args.state.now (record {
      world = c.args.world.now.world;
      text = c.args.text.now.items;
      work =
          c.args.state.now.work;
    }) c.step_plain-came.result c.step_plain-came.new.state
    (record { world = v; text = c.step_plain-came.new.text.items; work = c.step_plain-came.new.state.work }))
    (sym (ap (λ (s : StoryWorld). s.world) c.bind.ensures))
    (steps_so c.args.world.now.tables c.args.codes.now c.requires.told c.args.now.now c.args.world.now.world c.step_plain-came.new.ground.world c.args.state.now
    c.step_plain-came.new.state c.args.text.now.items c.step_plain-came.new.text.items
    c.step_plain-came.result c.step_plain-came.ensures.step)

pub returns-clause-within : goal.returns-clause-within
returns-clause-within c =
    work_within (fixed_of c.args.world.now.tables) c.args.codes.now c.args.now.now c.args.world.now.world c.step_plain-came.new.ground.world c.args.state.now
    c.step_plain-came.new.state c.args.text.now.items c.step_plain-came.new.text.items
    c.step_plain-came.result c.requires.within c.step_plain-came.ensures.step
