-- The rows of what fits a small story hold.
use Rattle.std.proofs.Common.{◌≡◌, refl, ℕ, suc, zero, ◌+◌, ◌<◌, ◌≤◌, arith}
use Rattle.play_meaning.specs.declared.operand.Use.TheVariants as role
use Rattle.story_code.specs.Fitting.{BodyFits, NumberFits}
use Rattle.story_code.specs.FittingRows.{FittingRows, repeats, small, sum_of}

sum_fits : (m n : ℕ) → n + m < 64 → NumberFits small 0 n (sum_of m)
sum_fits zero n low = omega (arith, low)
sum_fits (suc m) n low = (omega (arith, low), sum_fits m (n + 1) (omega (arith, low)))

sum_is_short : (m n : ℕ) → NumberFits small 0 n (sum_of m) → n + m < 64
sum_is_short zero n fits = omega (arith, fits)
sum_is_short (suc m) n fits = omega (arith, sum_is_short m (n + 1) fits.1)

repeats_fit : (m k : ℕ) → k + m ≤ 9 → BodyFits small (λ string. 0) k (repeats m)
repeats_fit zero k low = tt
repeats_fit (suc m) k low = (((omega (arith, low), (omega arith, omega arith)), repeats_fit m (k + 1) (omega (arith, low))), tt)

repeats_are_few : (m k : ℕ) → BodyFits small (λ string. 0) k (repeats (suc m)) → k + suc m ≤ 9
repeats_are_few zero k fits = omega (arith, fits.0.0.0)
repeats_are_few (suc m) k fits = omega (arith, repeats_are_few m (k + 1) fits.0.1)

describes_no_other : role.Describing ≡ role.Body → ⊥
describes_no_other same = let no : ⊥ = cc in no

pub rows_fit : FittingRows
rows_fit = record {
  last_object = (omega arith, omega arith);
  no_such_object = λ fits. omega (arith, fits.0);
  inside_repeat = (((omega arith, (omega arith, omega arith)), (((omega arith, omega arith)), tt)), tt);
  outside_repeat = λ fits. omega (arith, fits.0.0);
  nine_repeats = repeats_fit 9 0 (omega arith);
  ten_repeats = λ fits. let few = repeats_are_few 9 0 fits in omega (arith, few);
  sixty_four_numbers = sum_fits 63 0 (omega arith);
  sixty_five_numbers = λ fits. let few = sum_is_short 64 0 fits in omega (arith, few);
  counted_inside_eight = (omega arith, (omega arith, (omega arith, omega arith)));
  counted_inside_nine = λ fits. omega (arith, fits.1.0);
  last_value = (omega arith, (omega arith, omega arith));
  no_such_value = λ fits. omega (arith, fits.0);
  now_last_value = ((omega arith, (omega arith, omega arith)), tt);
  now_no_such_value = λ fits. omega (arith, fits.0.0);
  value_in_description = ((omega arith, (omega arith, omega arith)), tt);
  no_such_kind_of_value = λ fits. omega (arith, fits.0.0);
  described_in_body = ((refl, (omega arith, omega arith)), tt);
  described_in_description = λ fits. describes_no_other fits.0.0;
}
