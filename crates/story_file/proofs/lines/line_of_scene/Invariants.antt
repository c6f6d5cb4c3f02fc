use Rattle.std.proofs.Common.{◌≡◌, length}
use Rattle.i7_conditions.specs.Scopes.{scope_of}
use Rattle.story_file.specs.Lines.{line_of_scene}
use Rattle.story_file.proofs.lines.line_of_scene.Given as goal

abbrev pub invariant-loop-rest : goal.invariant-loop-rest
invariant-loop-rest l = line_of_scene (scope_of l.scope) l.rest l.number ≡ line_of_scene (scope_of l.scope) l.sentences l.number

abbrev pub decreases-loop-rest : goal.decreases-loop-rest
decreases-loop-rest l = length l.rest
