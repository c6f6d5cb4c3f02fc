use Rattle.std.proofs.Common.{◌+◌, ◌≤◌, ℕ, length}
use Rattle.std.specs.List.{range_with_len}
use Rattle.play_meaning.specs.Machines.{passing}
use Rattle.story_code.specs.Runs.{Describes, passes_in}
use Rattle.story_code.proofs.Listed.{Passed}
use Rattle.story_code.proofs.listing.passing_in.Given as goal

abbrev pub invariant-loop-number : goal.invariant-loop-number
invariant-loop-number g l = (depth : ℕ) (describes : Describes) → length l.codes ≤ l.test + depth
    → Passed (passes_in (g.G.Ground.fixed l.ground) l.codes l.now (g.G.Ground.world l.ground) depth describes l.test l.state.loops) (g.G.Ground.fixed l.ground).setting.count
    (passing (passes_in (g.G.Ground.fixed l.ground) l.codes l.now (g.G.Ground.world l.ground) depth describes l.test l.state.loops) (range_with_len 0 (g.G.Ground.fixed l.ground).setting.count)) l.objects.items l.number
