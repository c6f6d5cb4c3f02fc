-- The lines so far, and those that are left.
use Rattle.std.proofs.Common.{◌≡◌, ◌-◌, ◌++◌, map}
use Rattle.std.specs.List.{range_with_len}
use Rattle.i7_conditions.specs.Scopes.{scope_of}
use Rattle.story_file.specs.Lines.{line_of_scene, scene_lines}
use Rattle.story_file.proofs.lines.scene_lines.Given as goal

abbrev pub invariant-loop-number : goal.invariant-loop-number
invariant-loop-number l = l.lines.items ++ map (line_of_scene (scope_of l.scope) l.sentences) (range_with_len l.number (l.count - l.number)) ≡ scene_lines (scope_of l.scope) l.sentences l.count
