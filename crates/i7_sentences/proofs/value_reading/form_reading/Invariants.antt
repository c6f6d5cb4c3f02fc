use Rattle.std.proofs.Common.{◌≡◌, ◌+◌, ◌-◌, ◌≤◌, length}
use Rattle.std.specs.Prelude.{option_map}
use Rattle.i7_sentences.specs.Found.{found_in}
use Rattle.i7_sentences.specs.ValueFits.{best_below, fit_at}
use Rattle.i7_sentences.proofs.value_reading.form_reading.Given as goal

abbrev pub invariant-loop-count : goal.invariant-loop-count
invariant-loop-count l = record {
  best : option_map found_in l.best ≡ best_below (fit_at l.kinds (record { place = l.place; variant = record { form = l.form; pieces = l.pieces } }) l.tokens) l.count;
  within : l.count ≤ 1 + length l.tokens;
}

abbrev pub decreases-loop-count : goal.decreases-loop-count
decreases-loop-count l = 1 + length l.tokens - l.count
