use Rattle.std.proofs.Common.{◌≡◌, length}
use Rattle.play_meaning.specs.Meant.{conjunction_meant}
use Rattle.play_meaning.specs.Translation.{condition_part}
use Rattle.story_code.specs.Emitting.{clauses_emitted, emitted}
use Rattle.story_code.proofs.emitting.condition.emit_conjunction.Given as goal

abbrev pub invariant-loop-rest : goal.invariant-loop-rest
invariant-loop-rest l = clauses_emitted l.fn.loops l.out l.rest ≡ emitted l.fn.out (condition_part l.fn.loops (conjunction_meant l.fn.conjunction))

abbrev pub decreases-loop-rest : goal.decreases-loop-rest
decreases-loop-rest l = length l.rest
