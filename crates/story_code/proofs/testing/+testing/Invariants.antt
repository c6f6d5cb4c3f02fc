use Rattle.std.proofs.Common.{◌+◌, ◌-◌, ◌*◌, ◌≤◌, ℕ, [], length}
use Rattle.story_code.specs.Runs.{Describes, count_passing, passes_in}
use Rattle.story_code.specs.Testing.{IsRunning, begun}
use Rattle.story_code.proofs.Answered.{Counted}
use Rattle.story_code.proofs.testing.+testing.Given as goal

-- a test names none but later ones
abbrev pub decreases-answer : goal.decreases-answer
decreases-answer g l = 4 * (length l.codes.now - l.number) + 3

abbrev pub decreases-ask_in_test : goal.decreases-ask_in_test
decreases-ask_in_test g l = 4 * (length l.codes.now - l.state.now.code) + 2

abbrev pub decreases-count_or_ask : goal.decreases-count_or_ask
decreases-count_or_ask g l = 4 * (length l.codes.now - l.state.now.code) + 1

abbrev pub decreases-count_in : goal.decreases-count_in
decreases-count_in g l = 4 * (length l.codes.now - l.state.now.code)

abbrev pub invariant-answer-loop-instruction : goal.invariant-answer-loop-instruction
invariant-answer-loop-instruction g l = IsRunning (g.G.Ground.fixed l.ground) l.codes l.now (g.G.Ground.world l.ground) (begun l.number l.fn.loops) [] l.state []

abbrev pub decreases-answer-loop-instruction : goal.decreases-answer-loop-instruction
decreases-answer-loop-instruction g l = 65536 - l.state.place

abbrev pub invariant-count_in-loop-number : goal.invariant-count_in-loop-number
invariant-count_in-loop-number g l = (l.count ≤ l.number) × ((depth : ℕ) (describes : Describes) → length l.codes ≤ l.test + depth
    → Counted (passes_in (g.G.Ground.fixed l.ground) l.codes l.now (g.G.Ground.world l.ground) depth describes l.test l.state.loops) (g.G.Ground.fixed l.ground).setting.count
    (count_passing (passes_in (g.G.Ground.fixed l.ground) l.codes l.now (g.G.Ground.world l.ground) depth describes l.test l.state.loops) (g.G.Ground.fixed l.ground).setting.count 0) l.count l.number)
