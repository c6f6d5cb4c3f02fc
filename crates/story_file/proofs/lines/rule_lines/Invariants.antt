use Rattle.std.proofs.Common.{◌≡◌, ◌++◌, length}
use Rattle.story_file.specs.Lines.{rule_lines}
use Rattle.story_file.proofs.lines.rule_lines.Given as goal

abbrev pub invariant-loop-rest : goal.invariant-loop-rest
invariant-loop-rest l = l.lines.items ++ rule_lines l.rest ≡ rule_lines l.sentences

abbrev pub decreases-loop-rest : goal.decreases-loop-rest
decreases-loop-rest l = length l.rest
