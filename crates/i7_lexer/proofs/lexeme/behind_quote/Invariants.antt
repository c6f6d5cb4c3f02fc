use Rattle.std.proofs.Common.{◌≡◌, ◌≤◌, length}
use Rattle.i7_lexer.specs.Scans.{behind_quote}
use Rattle.i7_lexer.proofs.lexeme.behind_quote.Given as goal

abbrev pub invariant-loop-rest : goal.invariant-loop-rest
invariant-loop-rest l = record {
  same : behind_quote l.rest ≡ behind_quote l.bytes;
  bound : length l.rest ≤ length l.bytes;
}

abbrev pub decreases-loop-rest : goal.decreases-loop-rest
decreases-loop-rest l = length l.rest
