use Rattle.std.proofs.Common.{◌≡◌, length}
use Rattle.story_file.specs.Lines.{line_of}
use Rattle.story_file.proofs.lines.line_of.Given as goal

abbrev pub invariant-loop-rest : goal.invariant-loop-rest
invariant-loop-rest l = line_of l.rest l.text ≡ line_of l.sentences l.text

abbrev pub decreases-loop-rest : goal.decreases-loop-rest
decreases-loop-rest l = length l.rest
