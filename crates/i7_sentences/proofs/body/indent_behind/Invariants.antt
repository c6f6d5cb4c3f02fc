use Rattle.std.proofs.Common.{◌≡◌, length}
use Rattle.i7_sentences.specs.Bodies.{indent_behind}
use Rattle.i7_sentences.proofs.body.indent_behind.Given as goal

abbrev pub invariant-loop-rest : goal.invariant-loop-rest
invariant-loop-rest l = indent_behind l.at l.rest ≡ indent_behind l.indent l.tokens

abbrev pub decreases-loop-rest : goal.decreases-loop-rest
decreases-loop-rest l = length l.rest
