use Rattle.std.proofs.Common.{◌-◌}
use Rattle.story_code.specs.Longer.{IsLonger}
use Rattle.story_code.specs.Testing.{IsRunning}
use Rattle.story_code.proofs.plain.read_plain.Given as goal

abbrev pub invariant-loop-instruction : goal.invariant-loop-instruction
invariant-loop-instruction g l = IsRunning (g.G.Ground.fixed l.ground) l.codes l.now (g.G.Ground.world l.ground) l.fn.state l.fn.text.items l.state l.text.items
    × IsLonger l.fn.text.items l.text.items

abbrev pub decreases-loop-instruction : goal.decreases-loop-instruction
decreases-loop-instruction g l = 65536 - l.state.place
