use Rattle.std.proofs.Common.{◌≡◌, ◌++◌}
use Rattle.std.specs.Prelude.{filter}
use Rattle.play_meaning.specs.Deeds.{is_on_view}
use Rattle.world_store.specs.StorySettings.{setting_of}
use Rattle.world_store.proofs.world.World.on_view_among.Given as goal

abbrev pub invariant-loop-thing : goal.invariant-loop-thing
invariant-loop-thing l =
    l.seen.items ++ filter (is_on_view (setting_of l.self.tables) l.self.world) l.thing-iterator
    ≡ filter (is_on_view (setting_of l.self.tables) l.self.world) l.fn.things
