use Rattle.std.proofs.Common.{◌≡◌, ◌≤◌, length}
use Rattle.i7_lexer.specs.Places.{behind_break}
use Rattle.i7_lexer.proofs.cursor.behind_break.Given as goal

abbrev pub invariant-loop-rest : goal.invariant-loop-rest
invariant-loop-rest l = record {
  same : behind_break l.rest ≡ behind_break l.space;
  bound : length l.rest ≤ length l.space;
}

abbrev pub decreases-loop-rest : goal.decreases-loop-rest
decreases-loop-rest l = length l.rest
