-- What is found so far, and what is among the objects that are left, is all that there is.
use Rattle.std.proofs.Common.{◌≡◌, ◌++◌, ◌-◌}
use Rattle.std.specs.Prelude.{filter}
use Rattle.std.specs.List.{range_with_len}
use Rattle.play_meaning.specs.AllThings.{is_for_all}
use Rattle.world_store.specs.StorySettings.{setting_of}
use Rattle.story_player.proofs.all_things.all_things.Given as goal

abbrev pub invariant-loop-number : goal.invariant-loop-number
invariant-loop-number l =
    l.things.items ++ filter (is_for_all (setting_of l.world.tables) l.world.world l.action) (range_with_len l.number (l.count - l.number))
    ≡ filter (is_for_all (setting_of l.world.tables) l.world.world l.action) (range_with_len 0 l.count)
