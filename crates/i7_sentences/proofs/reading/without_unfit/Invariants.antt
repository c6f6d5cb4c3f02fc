use Rattle.std.proofs.Common.{◌≡◌, ◌≤◌, length, map}
use Rattle.i7_sentences.specs.Matching.{best_fit}
use Rattle.i7_sentences.proofs.reading.without_unfit.Given as goal

abbrev pub invariant-loop-rest : goal.invariant-loop-rest
invariant-loop-rest l = record {
  same : best_fit (map (λ variant. record { form = variant.0; pieces = variant.1.now }) l.rest) l.tokens ≡ best_fit (map (λ variant. record { form = variant.0; pieces = variant.1.now }) l.variants) l.tokens;
  within : length l.rest ≤ length l.variants;
}

abbrev pub decreases-loop-rest : goal.decreases-loop-rest
decreases-loop-rest l = length l.rest
