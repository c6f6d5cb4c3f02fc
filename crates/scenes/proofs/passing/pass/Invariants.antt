-- What is left of the pass, from where play has come to, is the whole pass from where it was.
use Rattle.std.proofs.Common.{◌≡◌}
use Rattle.play_meaning.specs.Turns.{pass}
use Rattle.action_stages.specs.Stages.{back_of, progress_of, story_of, tables_of}
use Rattle.world_store.specs.StoryPlay.{game_in_play}
use Rattle.scenes.proofs.Scenes.{left_of}
use Rattle.scenes.proofs.passing.pass.Given as goal

abbrev pub invariant-loop-scene : goal.invariant-loop-scene
invariant-loop-scene g l =
    let t = story_of l.fn.stage in
    record {
      story : story_of l.stage ≡ t;
      tables : tables_of l.stage ≡ t;
      back : back_of l.stage ≡ back_of l.fn.stage;
      left : left_of t l.scene (progress_of l.stage) ≡ pass (game_in_play t) (progress_of l.fn.stage);
    }
