use Rattle.std.proofs.Common.{◌≡◌, ◌<◌, ℕ, Some}
use Rattle.story_code.specs.Runs.{IsDescription}
use Rattle.story_code.proofs.together.are_described_by.Given as goal

abbrev pub invariant-loop-number : goal.invariant-loop-number
invariant-loop-number g l = (o n : ℕ) → o < l.number → (g.G.Ground.fixed l.ground).descriptions o ≡ Some n → IsDescription l.codes n
