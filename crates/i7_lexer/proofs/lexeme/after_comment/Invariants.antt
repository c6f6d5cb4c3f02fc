use Rattle.std.proofs.Common.{◌≡◌, ◌+◌, ◌≤◌, length}
use Rattle.i7_lexer.specs.Scans.{closing}
use Rattle.i7_lexer.proofs.lexeme.after_comment.Given as goal

abbrev pub invariant-loop-rest : goal.invariant-loop-rest
invariant-loop-rest l = record {
  same : closing l.depth l.rest ≡ closing 0 l.bytes;
  bound : l.depth + length l.rest ≤ length l.bytes;
}

abbrev pub decreases-loop-rest : goal.decreases-loop-rest
decreases-loop-rest l = length l.rest
