use Rattle.std.proofs.Common.{◌≡◌, length}
use Rattle.story_code.specs.Emitting.{terms_emitted}
use Rattle.story_code.proofs.emitting.number.emit_terms.Given as goal

abbrev pub invariant-loop-rest : goal.invariant-loop-rest
invariant-loop-rest l = terms_emitted l.fn.loops l.out l.rest ≡ terms_emitted l.fn.loops l.fn.out l.fn.joined

abbrev pub decreases-loop-rest : goal.decreases-loop-rest
decreases-loop-rest l = length l.rest
