use Rattle.std.proofs.Common.{◌≡◌, ◌≤◌, length}
use Rattle.i7_sentences.specs.Matching.{looked, nearest}
use Rattle.i7_sentences.specs.declared.class.State.TheVariants.{Start}
use Rattle.i7_sentences.proofs.matcher.nearest.Given as goal

abbrev pub invariant-loop-rest : goal.invariant-loop-rest
invariant-loop-rest l = record {
  within : length l.rest ≤ length l.tokens;
  same : nearest l.class l.state (λ rest. looked l.behind (length rest)) l.rest ≡ nearest l.class Start (λ rest. looked l.behind (length rest)) l.tokens;
}

abbrev pub decreases-loop-rest : goal.decreases-loop-rest
decreases-loop-rest l = length l.rest
