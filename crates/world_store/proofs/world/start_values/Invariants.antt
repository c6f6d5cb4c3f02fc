use Rattle.std.proofs.Common.{◌≡◌, ◌++◌, ◌-◌}
use Rattle.std.specs.List.{flat_map, range_with_len}
use Rattle.story_format.specs.InPlay.{start_values}
use Rattle.world_store.proofs.world.start_values.Given as goal

abbrev pub invariant-loop-kind : goal.invariant-loop-kind
invariant-loop-kind l =
    l.values.items ++ flat_map (start_values l.story) (range_with_len l.kind (l.count - l.kind)) ≡ flat_map (start_values l.story) (range_with_len 0 l.count)
