use Rattle.std.proofs.Common.{◌≡◌, ◌++◌, ◌-◌}
use Rattle.std.specs.List.{flat_map, range_with_len}
use Rattle.story_format.specs.InPlay.{start_numbers}
use Rattle.world_store.proofs.world.start_numbers.Given as goal

abbrev pub invariant-loop-property : goal.invariant-loop-property
invariant-loop-property l =
    l.numbers.items ++ flat_map (start_numbers l.story) (range_with_len l.property (l.count - l.property)) ≡ flat_map (start_numbers l.story) (range_with_len 0 l.count)
