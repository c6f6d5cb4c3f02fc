use Rattle.std.proofs.Common.{◌≡◌, ◌++◌, length}
use Rattle.story_file.specs.Lines.{text_lines}
use Rattle.story_file.proofs.lines.text_lines.Given as goal

abbrev pub invariant-loop-rest : goal.invariant-loop-rest
invariant-loop-rest l = l.lines.items ++ text_lines l.sentences l.rest ≡ text_lines l.sentences l.objects

abbrev pub decreases-loop-rest : goal.decreases-loop-rest
decreases-loop-rest l = length l.rest
