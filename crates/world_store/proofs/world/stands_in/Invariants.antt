use Rattle.std.proofs.Common.{◌≡◌}
use Rattle.std.specs.List.{list_any}
use Rattle.play_meaning.specs.Seeing.{is_held_by}
use Rattle.world_store.proofs.world.stands_in.Given as goal

abbrev pub invariant-loop-step : goal.invariant-loop-step
invariant-loop-step l = list_any (is_held_by l.holder) l.step-iterator ≡ list_any (is_held_by l.holder) l.fn.chain
