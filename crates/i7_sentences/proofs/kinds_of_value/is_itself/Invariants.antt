use Rattle.std.proofs.Common.{◌≡◌, length, map}
use Rattle.std.specs.Prelude.{is_some}
use Rattle.i7_sentences.specs.Matching.{best_fit}
use Rattle.i7_sentences.proofs.kinds_of_value.is_itself.Given as goal

abbrev pub invariant-loop-rest : goal.invariant-loop-rest
invariant-loop-rest l =
    is_some (best_fit (map (λ variant. record { form = variant.0; pieces = variant.1.now }) l.rest) l.tokens)
    ≡ is_some (best_fit (map (λ variant. record { form = variant.0; pieces = variant.1.now }) l.variants) l.tokens)

abbrev pub decreases-loop-rest : goal.decreases-loop-rest
decreases-loop-rest l = length l.rest
