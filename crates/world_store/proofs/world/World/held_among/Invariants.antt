use Rattle.std.proofs.Common.{◌≡◌, ◌++◌}
use Rattle.std.specs.Prelude.{filter, Some}
use Rattle.play_meaning.specs.Values.{is_held}
use Rattle.world_store.proofs.world.World.held_among.Given as goal

abbrev pub invariant-loop-thing : goal.invariant-loop-thing
invariant-loop-thing l =
    l.held.items ++ filter (is_held l.self.world l.relation (Some l.holder)) l.thing-iterator
    ≡ filter (is_held l.self.world l.relation (Some l.holder)) l.fn.things
