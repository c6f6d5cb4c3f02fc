use Rattle.std.proofs.Common.{◌≡◌, length, map}
use Rattle.i7_sentences.specs.ValueFits.{lowest_value}
use Rattle.i7_sentences.proofs.value_reading.lowest_value.Given as goal

abbrev pub invariant-loop-rest : goal.invariant-loop-rest
invariant-loop-rest l =
    lowest_value (map (λ row. record { place = row.0; variant = record { form = row.1.0; pieces = row.1.1.now } }) l.rest) l.kinds l.tokens
    ≡ lowest_value (map (λ row. record { place = row.0; variant = record { form = row.1.0; pieces = row.1.1.now } }) l.rows) l.kinds l.tokens

abbrev pub decreases-loop-rest : goal.decreases-loop-rest
decreases-loop-rest l = length l.rest
