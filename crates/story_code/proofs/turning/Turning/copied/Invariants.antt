use Rattle.std.proofs.Common.{◌≡◌, take}
use Rattle.story_code.proofs.turning.Turning.copied.Given as goal

abbrev pub invariant-loop-object : goal.invariant-loop-object
invariant-loop-object l = l.copy ≡ take l.object-index l.self
