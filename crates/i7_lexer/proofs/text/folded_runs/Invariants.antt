use Rattle.std.proofs.Common.{◌≡◌, ◌++◌, length}
use Rattle.i7_lexer.specs.Texts.{folded}
use Rattle.i7_lexer.proofs.text.folded_runs.Given as goal

abbrev pub invariant-loop-rest : goal.invariant-loop-rest
invariant-loop-rest l = l.out.items ++ folded l.rest ≡ folded l.bytes

abbrev pub decreases-loop-rest : goal.decreases-loop-rest
decreases-loop-rest l = length l.rest
