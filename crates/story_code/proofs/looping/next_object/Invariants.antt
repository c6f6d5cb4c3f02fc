use Rattle.std.proofs.Common.{◌+◌, ◌-◌, ◌≤◌, ℕ, None, length, take}
use Rattle.std.specs.Prelude.{slice_index_or}
use Rattle.play_meaning.specs.Machines.{first_passing, number_behind}
use Rattle.story_code.specs.Runs.{Describes, passes_in}
use Rattle.story_code.proofs.Looped.{Sought}
use Rattle.story_code.proofs.looping.next_object.Given as goal

abbrev pub invariant-loop-next : goal.invariant-loop-next
invariant-loop-next g l = (depth : ℕ) (describes : Describes) → length l.codes ≤ l.test + depth
    → Sought (passes_in (g.G.Ground.fixed l.ground) l.codes l.now (g.G.Ground.world l.ground) depth describes l.test (take l.number l.state.loops)) (g.G.Ground.fixed l.ground).setting.count
    (first_passing (passes_in (g.G.Ground.fixed l.ground) l.codes l.now (g.G.Ground.world l.ground) depth describes l.test (take l.number l.state.loops))
    ((g.G.Ground.fixed l.ground).setting.count - number_behind (slice_index_or l.state.loops l.number None)) (number_behind (slice_index_or l.state.loops l.number None))) l.next
