use Rattle.std.proofs.Common.{◌≡◌, ◌++◌, [], Some, length}
use Rattle.std.specs.Prelude.{filter}
use Rattle.play_meaning.specs.Settings.{thing_kind}
use Rattle.play_meaning.specs.Values.{is_among}
use Rattle.world_store.specs.StorySettings.{setting_of}
use Rattle.standard_rules.proofs.listing.things_among.Given as goal

abbrev pub invariant-loop-rest : goal.invariant-loop-rest
invariant-loop-rest l = l.things.items ++ filter (is_among (setting_of l.world.tables) l.world.world [] (Some thing_kind)) l.rest ≡ filter (is_among (setting_of l.world.tables) l.world.world [] (Some thing_kind)) l.objects

abbrev pub decreases-loop-rest : goal.decreases-loop-rest
decreases-loop-rest l = length l.rest
