use Rattle.std.proofs.Common.{◌≡◌, length}
use Rattle.story_code.specs.Emitting.{operators_emitted}
use Rattle.story_code.proofs.emitting.number.emit_operators.Given as goal

abbrev pub invariant-loop-last : goal.invariant-loop-last
invariant-loop-last l = operators_emitted l.out l.rest ≡ operators_emitted l.fn.out l.fn.joined

abbrev pub decreases-loop-last : goal.decreases-loop-last
decreases-loop-last l = length l.rest
