use Rattle.std.proofs.Common.{◌≡◌, length}
use Rattle.i7_actions.specs.Parts.{behind}
use Rattle.i7_actions.proofs.part.behind.Given as goal

abbrev pub invariant-loop-left : goal.invariant-loop-left
invariant-loop-left l = behind l.left l.rest ≡ behind l.part l.words

abbrev pub decreases-loop-left : goal.decreases-loop-left
decreases-loop-left l = length l.left
