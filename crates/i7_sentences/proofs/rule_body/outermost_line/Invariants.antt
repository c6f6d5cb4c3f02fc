use Rattle.std.proofs.Common.{◌≡◌, length}
use Rattle.i7_sentences.specs.RuleBodies.{outermost_line}
use Rattle.i7_sentences.proofs.rule_body.outermost_line.Given as goal

abbrev pub invariant-loop-rest : goal.invariant-loop-rest
invariant-loop-rest l = outermost_line l.rest ≡ outermost_line l.phrases

abbrev pub decreases-loop-rest : goal.decreases-loop-rest
decreases-loop-rest l = length l.rest
