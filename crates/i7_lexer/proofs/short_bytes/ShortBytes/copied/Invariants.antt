use Rattle.std.proofs.Common.{◌≡◌, ◌++◌, length}
use Rattle.i7_lexer.proofs.short_bytes.ShortBytes.copied.Given as goal

abbrev pub invariant-loop-rest : goal.invariant-loop-rest
invariant-loop-rest l = l.copy ++ l.rest ≡ l.bytes

abbrev pub decreases-loop-rest : goal.decreases-loop-rest
decreases-loop-rest l = length l.rest
