-- What is left to be done, from where play has come to, is all that there was to do from where it was.
use Rattle.std.proofs.Common.{◌≡◌, length, map}
use Rattle.play_meaning.specs.Turns.{parts, perform_upon}
use Rattle.action_stages.specs.Stages.{back_of, progress_of, story_of, tables_of}
use Rattle.world_store.specs.StoryPlay.{game_in_play}
use Rattle.story_player.proofs.several.act_upon_each.Given as goal

abbrev pub invariant-loop-rest : goal.invariant-loop-rest
invariant-loop-rest g l =
    let t = story_of l.fn.stage in
    record {
      story : story_of l.stage ≡ t;
      tables : tables_of l.stage ≡ t;
      back : back_of l.stage ≡ back_of l.fn.stage;
      left : parts (map (perform_upon (game_in_play t) l.action) l.rest) (progress_of l.stage) ≡ parts (map (perform_upon (game_in_play t) l.action) l.fn.objects) (progress_of l.fn.stage);
    }

abbrev pub decreases-loop-rest : goal.decreases-loop-rest
decreases-loop-rest g l = length l.rest
