use Rattle.std.proofs.Common.{◌≡◌, ◌+◌, ◌≤◌, length}
use Rattle.i7_lexer.specs.Sources.{plain_len}
use Rattle.i7_lexer.proofs.source.plain_len.Given as goal

abbrev pub invariant-loop-rest : goal.invariant-loop-rest
invariant-loop-rest l = record {
  same : l.count + plain_len l.rest ≡ plain_len l.bytes;
  bound : l.count + length l.rest ≤ length l.bytes;
}

abbrev pub decreases-loop-rest : goal.decreases-loop-rest
decreases-loop-rest l = length l.rest
