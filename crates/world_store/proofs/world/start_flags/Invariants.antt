use Rattle.std.proofs.Common.{◌≡◌, ◌++◌, ◌-◌}
use Rattle.std.specs.List.{flat_map, range_with_len}
use Rattle.story_format.specs.InPlay.{start_flags}
use Rattle.world_store.proofs.world.start_flags.Given as goal

abbrev pub invariant-loop-property : goal.invariant-loop-property
invariant-loop-property l =
    l.flags.items ++ flat_map (start_flags l.story) (range_with_len l.property (l.count - l.property)) ≡ flat_map (start_flags l.story) (range_with_len 0 l.count)
