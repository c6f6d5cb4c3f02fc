use Rattle.std.proofs.Common.{◌≡◌, ◌≤◌, length}
use Rattle.world_store.specs.StoryWorlds.{reverted}
use Rattle.world_store.proofs.world.World.revert.Given as goal

abbrev pub invariant-loop-mark : goal.invariant-loop-mark
invariant-loop-mark l = record {
  upto : l.fn.mark ≤ length l.self.past;
  same : reverted l.fn.mark l.self ≡ reverted l.fn.mark l.fn.self;
}

abbrev pub decreases-loop-mark : goal.decreases-loop-mark
decreases-loop-mark l = length l.self.past
