use Rattle.std.proofs.Common.{◌≡◌, ◌++◌, length}
use Rattle.play_meaning.specs.Commands.{offered_on}
use Rattle.world_store.specs.StorySettings.{setting_of}
use Rattle.story_player.proofs.asking.add_others.Given as goal

abbrev pub invariant-loop-rest : goal.invariant-loop-rest
invariant-loop-rest l =
    l.text.items ++ offered_on (setting_of l.world.tables) l.rest ≡ l.fn.text.items ++ offered_on (setting_of l.world.tables) l.fn.objects

abbrev pub decreases-loop-rest : goal.decreases-loop-rest
decreases-loop-rest l = length l.rest
