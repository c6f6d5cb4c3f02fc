use Rattle.std.proofs.Common.{◌≡◌, length}
use Rattle.play_meaning.specs.Meant.{condition_meant}
use Rattle.play_meaning.specs.Translation.{condition_part}
use Rattle.story_code.specs.Emitting.{conjunctions_emitted, emitted}
use Rattle.story_code.proofs.emitting.condition.emit_condition.Given as goal

abbrev pub invariant-loop-rest : goal.invariant-loop-rest
invariant-loop-rest l = conjunctions_emitted l.fn.loops l.out l.rest ≡ emitted l.fn.out (condition_part l.fn.loops (condition_meant l.fn.condition))

abbrev pub decreases-loop-rest : goal.decreases-loop-rest
decreases-loop-rest l = length l.rest
