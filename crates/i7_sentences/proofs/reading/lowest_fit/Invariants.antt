use Rattle.std.proofs.Common.{◌≡◌, length, map, true}
use Rattle.std.specs.List.{list_all}
use Rattle.i7_sentences.specs.Matching.{lowest_fit}
use Rattle.i7_sentences.specs.Needed.{needs}
use Rattle.i7_sentences.proofs.reading.lowest_fit.Given as goal

abbrev pub invariant-loop-rest : goal.invariant-loop-rest
invariant-loop-rest l =
    (lowest_fit (map (λ form. map (λ variant. record { form = variant.0; pieces = variant.1.now }) form.1.now) l.rest) l.tokens ≡ lowest_fit (map (λ form. map (λ variant. record { form = variant.0; pieces = variant.1.now }) form.1.now) l.forms) l.tokens)
    × (list_all (λ form. list_all (needs form.0) (map (λ variant. record { form = variant.0; pieces = variant.1.now }) form.1.now)) l.rest ≡ true)

abbrev pub decreases-loop-rest : goal.decreases-loop-rest
decreases-loop-rest l = length l.rest
